-- What holds of a file that an open makes.
use Rattle.cfs_dir.specs.declared.node.Node.{Node}
use Rattle.cfs_requests.specs.declared.opening.Opening.{Opening}
use Rattle.cfs_requests.specs.declared.opening.Opening.TheVariants.{Found, Made}

abbrev pub IfMade : Opening → (Node → Type 0) → Type 0
IfMade (Found node) P = Unit {0}
IfMade (Made node) P = P node
