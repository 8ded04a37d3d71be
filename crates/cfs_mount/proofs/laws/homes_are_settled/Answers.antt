use Rattle.cfs_mount.proofs.Settling.{front-settled, slots-settled}
use Rattle.cfs_mount.proofs.laws.homes_are_settled.Goals as goal

pub returns : goal.returns
returns c = λ words disk regions blocks numbers store distinct have read closed. record {
  front = front-settled words disk regions blocks numbers store have distinct read;
  slots = slots-settled words disk regions blocks numbers store have closed;
}
