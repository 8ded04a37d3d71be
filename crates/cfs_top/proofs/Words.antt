-- Words of a command line.
use Rattle.std.proofs.Common.{◌≡◌, ℕ, ◌≤◌, List, [], ◌∷◌, length, get_or, arith, true, false}
use Rattle.std.proofs.lemmas.Bool.Decides.{not_from_Decides}
use Rattle.std.proofs.lemmas.Slice.Eq.{bytes_eq-Decides}
use Rattle.std.specs.Prelude.{codes}
use Rattle.std.specs.Fmt.{decimal}
use Rattle.std.specs.Str.{bytes_eq}
use Rattle.cfs_image.specs.declared.layout.TheConstants.{FEWEST_BLOCKS, FEWEST_QUEUES, MOST_BLOCKS, MOST_QUEUES}
use Rattle.cfs_dir.specs.Path.{IsPathText}
use Rattle.cfs_top.specs.Command.{IsCheck, IsDump, IsMkfs, IsPlay, IsUpgrade}
use Rattle.cfs_top.specs.Command.{is_check, is_dump, is_mkfs, is_play, is_upgrade}
use Rattle.cfs_top.specs.Command.{is_image_name}

-- three words, of which two are known
three_words : (words : List (List ℕ)) (name command image : List ℕ) → length words ≡ 3 →
    command ≡ get_or words 1 command → image ≡ get_or words 2 image → bytes_eq command name ≡ true →
    (program : List ℕ) × (words ≡ program ∷ name ∷ image ∷ [])
three_words [] name command image long second third is = cc
three_words (a ∷ []) name command image long second third is = absurd (omega arith)
three_words (a ∷ b ∷ []) name command image long second third is = absurd (omega arith)
three_words (a ∷ b ∷ c ∷ []) name command image long second third is =
    let named : command ≡ name = (bytes_eq-Decides command name).0 is in (a, cc)
three_words (a ∷ b ∷ c ∷ d ∷ rest) name command image long second third is = absurd (omega arith)

pub IsCheck-three : (words : List (List ℕ)) (command image : List ℕ) → length words ≡ 3 →
    command ≡ get_or words 1 command → image ≡ get_or words 2 image →
    is_check command ≡ true → is_image_name image ≡ true → IsCheck words image
IsCheck-three words command image long second third is name =
    let found = three_words words (codes "check") command image long second third is in
    record { program = found.0; are = found.1; name = name }

pub IsPlay-three : (words : List (List ℕ)) (command image : List ℕ) → length words ≡ 3 →
    command ≡ get_or words 1 command → image ≡ get_or words 2 image →
    is_play command ≡ true → is_image_name image ≡ true → IsPlay words image
IsPlay-three words command image long second third is name =
    let found = three_words words (codes "play") command image long second third is in
    record { program = found.0; are = found.1; name = name }

-- five words, of which four are known
pub IsMkfs-five : (words : List (List ℕ)) (command image first second : List ℕ) (blocks queues : ℕ) → length words ≡ 5 →
    command ≡ get_or words 1 command → image ≡ get_or words 2 image → first ≡ get_or words 3 first → second ≡ get_or words 4 second →
    is_mkfs command ≡ true → is_image_name image ≡ true →
    ((first ≡ decimal blocks) × (FEWEST_BLOCKS ≤ blocks) × (blocks ≤ MOST_BLOCKS)) →
    ((second ≡ decimal queues) × (FEWEST_QUEUES ≤ queues) × (queues ≤ MOST_QUEUES)) → IsMkfs words image blocks queues
IsMkfs-five [] command image first second blocks queues long c i f s is name b q = cc
IsMkfs-five (v ∷ []) command image first second blocks queues long c i f s is name b q = absurd (omega arith)
IsMkfs-five (v ∷ w ∷ []) command image first second blocks queues long c i f s is name b q = absurd (omega arith)
IsMkfs-five (v ∷ w ∷ x ∷ []) command image first second blocks queues long c i f s is name b q = absurd (omega arith)
IsMkfs-five (v ∷ w ∷ x ∷ y ∷ []) command image first second blocks queues long c i f s is name b q = absurd (omega arith)
IsMkfs-five (v ∷ w ∷ x ∷ y ∷ z ∷ []) command image first second blocks queues long c i f s is name b q =
    let named : command ≡ codes "mkfs" = (bytes_eq-Decides command (codes "mkfs")).0 is in
    let first_is : first ≡ decimal blocks = b.0 in
    let second_is : second ≡ decimal queues = q.0 in
    record {
      program = v;
      are = cc;
      name = name;
      fewest_blocks = b.1;
      most_blocks = b.2;
      fewest_queues = q.1;
      most_queues = q.2;
    }
IsMkfs-five (v ∷ w ∷ x ∷ y ∷ z ∷ u ∷ rest) command image first second blocks queues long c i f s is name b q = absurd (omega arith)

-- four words, of which three are known
pub IsUpgrade-four : (words : List (List ℕ)) (command image new : List ℕ) → length words ≡ 4 →
    command ≡ get_or words 1 command → image ≡ get_or words 2 image → new ≡ get_or words 3 new →
    is_upgrade command ≡ true → is_image_name image ≡ true → is_image_name new ≡ true →
    bytes_eq new image ≡ false → IsUpgrade words image new
IsUpgrade-four [] command image new long second third fourth is name new_name apart = cc
IsUpgrade-four (a ∷ []) command image new long second third fourth is name new_name apart =
    absurd (omega arith)
IsUpgrade-four (a ∷ b ∷ []) command image new long second third fourth is name new_name apart =
    absurd (omega arith)
IsUpgrade-four (a ∷ b ∷ c ∷ []) command image new long second third fourth is name new_name apart =
    absurd (omega arith)
IsUpgrade-four (a ∷ b ∷ c ∷ d ∷ []) command image new long second third fourth is name new_name
    apart =
    let named : command ≡ codes "upgrade" = (bytes_eq-Decides command (codes "upgrade")).0 is in
    record {
      program = a;
      are = cc;
      name = name;
      new_name = new_name;
      another = not_from_Decides (bytes_eq new image) (bytes_eq-Decides new image) apart;
    }
IsUpgrade-four (a ∷ b ∷ c ∷ d ∷ e ∷ rest) command image new long second third fourth is name
    new_name apart = absurd (omega arith)

-- four words, of which two are known and one is the text of a path
pub IsDump-four : (words : List (List ℕ)) (command image text : List ℕ) (path : List (List ℕ)) →
    length words ≡ 4 → command ≡ get_or words 1 command → image ≡ get_or words 2 image →
    text ≡ get_or words 3 text → is_dump command ≡ true → is_image_name image ≡ true →
    IsPathText text path → IsDump words image path
IsDump-four [] command image text path long second third fourth is name spelled = cc
IsDump-four (a ∷ []) command image text path long second third fourth is name spelled =
    absurd (omega arith)
IsDump-four (a ∷ b ∷ []) command image text path long second third fourth is name spelled =
    absurd (omega arith)
IsDump-four (a ∷ b ∷ c ∷ []) command image text path long second third fourth is name spelled =
    absurd (omega arith)
IsDump-four (a ∷ b ∷ c ∷ d ∷ []) command image text path long second third fourth is name spelled =
    let named : command ≡ codes "dump" = (bytes_eq-Decides command (codes "dump")).0 is in
    record {
      program = a;
      are = cc;
      name = name;
      names = spelled.names_are;
    }
IsDump-four (a ∷ b ∷ c ∷ d ∷ e ∷ rest) command image text path long second third fourth is name
    spelled = absurd (omega arith)
