-- The paths of the files.
use Rattle.std.proofs.Common.{◌≡◌, ℕ, ◌+◌, ◌≤◌, List, [], ◌∷◌, arith, refl, sym, ◌∙◌}
use Rattle.std.specs.Prelude.{All, IsTrue}
use Rattle.std.proofs.lemmas.Bool.Decides.{nat_tests}
use Rattle.std.proofs.lemmas.List.Elements.{All-cons, All-nil}
use Rattle.std.proofs.lemmas.Option.{same_Some}
use Rattle.cfs_dir.specs.Name.{is_name_byte}
use Rattle.cfs_dir.specs.Path.{IsPathName, ArePathNames, IsPathText}
use Rattle.cfs_words.proofs.Paths.{path_of-again}
use Rattle.cfs_gen.specs.Workload.{file_path}

digit : (file : ℕ) → file ≤ 8 → IsTrue (is_name_byte (48 + file))
digit file h = grind (arith, nat_tests, h)

pub file_path_fits : (file : ℕ) → file ≤ 8 → ArePathNames (file_path file)
file_path_fits file h =
    let name = 103 ∷ (48 + file) ∷ [] in
    let bytes = All-cons (λ b. IsTrue (is_name_byte b)) 103 ((48 + file) ∷ []) refl (All-cons (λ b. IsTrue (is_name_byte b)) (48 + file) [] (digit file h) (All-nil (λ b. IsTrue (is_name_byte b)))) in
    let fits : IsPathName name = (omega arith, omega arith, bytes) in
    (omega arith, All-cons IsPathName name [] fits (All-nil IsPathName))

pub file_text : (file : ℕ) → file ≤ 8 → IsPathText (47 ∷ 103 ∷ (48 + file) ∷ []) (file_path file)
file_text file h = record { names_are = file_path_fits file h; text_is = refl }

-- the text has no other names
pub file_path_is : (names : List (List ℕ)) (file : ℕ) → file ≤ 8 → IsPathText (47 ∷ 103 ∷ (48 + file) ∷ []) names → names ≡ file_path file
file_path_is names file h text =
    let word = 47 ∷ 103 ∷ (48 + file) ∷ [] in
    same_Some _ _ (sym (path_of-again word names text) ∙ path_of-again word (file_path file) (file_text file h))
