-- Reads and syncs under a grant.
use Rattle.std.specs.Prelude.{ℕ, ◌+◌, List, [], ◌∷◌, ◌++◌}
use Rattle.cfs_file.specs.declared.request.Request.{Request}
use Rattle.cfs_inode.specs.declared.answers.ServeAnswer.{ServeAnswer}
use Rattle.cfs_inode.specs.declared.answers.ServeAnswer.TheVariants as answers
use Rattle.cfs_inode.specs.Reads.{with_read, without_read}
use Rattle.cfs_active.specs.View.{with_state}
use Rattle.cfs_granted.specs.declared.reader.Reader.{Reader}
use Rattle.cfs_granted.specs.Readers.{without_reader}
use Rattle.cfs_granted.specs.View.{LifeView}

-- one is asked under a grant
abbrev pub asked_under : ℕ → Request → LifeView → LifeView
asked_under grant request view = record view {
  active = with_state (with_read request) view.active;
  readers = view.readers
      ++ record { place = view.active.state.tracker.count + 1; grant = grant } ∷ [];
}

-- the one at a place is dropped
abbrev pub dropped : ℕ → LifeView → LifeView
dropped place view = record view {
  active = with_state (without_read place) view.active;
  readers = without_reader place view.readers;
}

-- one that is answered is pending no more
abbrev pub readers_behind : ℕ → ServeAnswer → List Reader → List Reader
readers_behind place answers.Served readers = without_reader place readers
readers_behind place (answers.NotYet before) readers = readers
readers_behind place answers.Failed readers = readers
