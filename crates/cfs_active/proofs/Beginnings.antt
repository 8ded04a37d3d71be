-- A state of which nothing is pending, with no job out.
use Rattle.std.proofs.Common.{◌≡◌, ◌<◌, ◌^◌, ℕ, List, [], None, ap, false, length, refl, replicate}
use Rattle.std.proofs.Common.{subst, sym}
use Rattle.cfs_core.specs.declared.flag.Flag.TheVariants.{Off}
use Rattle.cfs_core.specs.declared.inode_core.Core.{Core}
use Rattle.cfs_core.specs.Fresh.{IsEmpty}
use Rattle.cfs_job.specs.Views.{JobView}
use Rattle.cfs_medium.specs.World.{World}
use Rattle.cfs_pmem.specs.Images.{Seen, WordStep, words_of}
use Rattle.cfs_inode.specs.Admitting.{is_here}
use Rattle.cfs_inode.specs.New.{MappedSeen, stored_state}
use Rattle.cfs_inode.specs.Stands.{Together}
use Rattle.cfs_inode.specs.View.{StateView}
use Rattle.cfs_active.specs.Known.{IsActive}

pub empty_core : Core
empty_core = record {
  base = [];
  log = [];
  tracks = [];
  doubt = None;
  size = 0;
  sizes = [];
  tags = replicate 256 Off;
  bytes = [];
  loose = [];
  crashed = false;
}

pub is-empty : IsEmpty empty_core
unfolding empty_core
is-empty = record {
  base = refl;
  log = refl;
  tracks = refl;
  doubt = refl;
  size = refl;
  sizes = refl;
  blocks = refl;
  tags = refl;
  bytes = refl;
  loose = refl;
  up = refl;
}

pub begun : (ino stored : ℕ) (size : Seen WordStep) (blocks : List MappedSeen) (state : StateView)
    (jobs : List JobView) (core : Core) (world : World) →
    state ≡ stored_state ino size stored blocks → jobs ≡ [] → ino < 2 ^ 32 →
    0 < length (words_of size) → Together state [] core world → IsActive state jobs
begun ino stored size blocks state jobs core world is none number sized together = record {
  number = subst (λ (n : ℕ). n < 2 ^ 32) (sym (ap (λ (s : StateView). s.ino) is)) number;
  here = ap (λ (s : StateView). is_here s.tracker.doubt) is;
  sized = subst (λ (s : Seen WordStep). 0 < length (words_of s))
      (sym (ap (λ (s : StateView). s.size) is)) sized;
  core = core;
  world = world;
  together = subst (λ (js : List JobView). Together state js core world) (sym none) together;
}
