use Rattle.cfs_file.proofs.Logs.{file_of-append}
use Rattle.cfs_events.proofs.medium.recovered_file.Goals as goal

pub returns : goal.returns
returns c =
    rw (
      c.in_ok-apply_doubt.ensures,
      c.in_ok-apply_open.ensures,
      c.in_ok-file.ensures,
      c.as_slice.ensures,
      c.as_slice-2.ensures,
      file_of-append,
    )
