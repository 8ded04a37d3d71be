-- The names of a path are read from its text, and from no other.
use Rattle.std.proofs.Common.{◌≡◌, ℕ, ◌+◌, ◌<◌, ◌≤◌, Bool, true, false, cond, ◌&&◌, List, [], ◌∷◌, ◌++◌, length, Option, Some, None, Result, Ok, Err, arith, refl, rules, sym, subst, ap, ◌∙◌}
use Rattle.std.specs.Prelude.{All, ◌==◌, ◌||◌, nat_le, IsTrue}
use Rattle.std.specs.Bool.{Decides}
use Rattle.std.specs.List.{list_all}
use Rattle.std.specs.Str.{bytes_eq}
use Rattle.std.proofs.lemmas.Bool.Decides.{nat_tests, Decides-by_and}
use Rattle.std.proofs.lemmas.List.Elements.{All-head, All-tail}
use Rattle.std.proofs.lemmas.Option.{cond_some, none-some, same_Some}
use Rattle.std.proofs.lemmas.Slice.Eq.{bytes_eq-Decides}
use Rattle.cfs_dir.specs.Name.{is_name_byte, AreNameBytes}
use Rattle.cfs_dir.specs.Path.{IsPathName, ArePathNames, IsPathText, behind_slashes, text_of}
use Rattle.cfs_words.specs.Parts.{parts_of, behind, joined}
use Rattle.cfs_words.specs.Reading.{is_path_name, names_behind, path_of}
use Rattle.cfs_words.proofs.Joins.{IsWithout, AreWithout, parts_of-behind, joined-parts_of}
use Rattle.cfs_words.proofs.Numbers.{and_parts, and_both, leb-true, le-leb}

pub name_bytes : (bytes : List ℕ) → Decides (list_all is_name_byte bytes) (AreNameBytes bytes)
name_bytes bytes = Decides-by_and is_name_byte (λ byte. IsTrue (is_name_byte byte)) (list_all is_name_byte) (λ b. (λ e. e, λ h. h)) refl (λ _ _. refl) bytes

path_name : (name : List ℕ) → Decides (is_path_name name) (IsPathName name)
path_name name = (says, said) where
  says : is_path_name name ≡ true → IsPathName name
  says e =
      let first = and_parts (nat_le 1 (length name)) (nat_le (length name) 200 && list_all is_name_byte name) e in
      let second = and_parts (nat_le (length name) 200) (list_all is_name_byte name) first.1 in
      (leb-true _ _ first.0, leb-true _ _ second.0, (name_bytes name).0 second.1)

  said : IsPathName name → is_path_name name ≡ true
  said h =
      and_both (nat_le 1 (length name)) (nat_le (length name) 200 && list_all is_name_byte name) (le-leb _ _ h.0)
      (and_both (nat_le (length name) 200) (list_all is_name_byte name) (le-leb _ _ h.1) ((name_bytes name).1 h.2))

path_names : (names : List (List ℕ)) → Decides (list_all is_path_name names) (All IsPathName names)
path_names names = Decides-by_and is_path_name IsPathName (list_all is_path_name) path_name refl (λ _ _. refl) names

slash_free : (b : ℕ) → IsTrue (is_name_byte b) → (b == 47) ≡ false
slash_free b h = grind (arith, nat_tests, h)

name_slash_free : (name : List ℕ) → IsPathName name → IsWithout 47 name
name_slash_free name h = λ k d lt. slash_free _ (h.2 k d lt)

names_slash_free : (names : List (List ℕ)) → All IsPathName names → AreWithout 47 names
names_slash_free [] h = tt
names_slash_free (name ∷ names) h = (name_slash_free name (All-head IsPathName name names h), names_slash_free names (All-tail IsPathName name names h))

slashes-behind : (names : List (List ℕ)) → behind_slashes names ≡ behind 47 names
slashes-behind [] = refl
slashes-behind (name ∷ names) = ap (λ (rest : List ℕ). 47 ∷ (name ++ rest)) (slashes-behind names)

parts_text : (word : List ℕ) (parts names : List (List ℕ)) → parts_of 47 word ≡ parts → names_behind parts ≡ Some names → IsPathText word names
parts_text word [] names is e = absurd (none-some _ e)
parts_text word ([] ∷ []) names is e = absurd (none-some _ e)
parts_text word ([] ∷ name ∷ rest) names is e =
    let found = cond_some (nat_le (length (name ∷ rest)) 64 && list_all is_path_name (name ∷ rest)) (name ∷ rest) names e in
    let both = and_parts (nat_le (length (name ∷ rest)) 64) (list_all is_path_name (name ∷ rest)) found.0 in
    subst (λ (ns : List (List ℕ)). IsPathText word ns) found.1
    (record {
      names_are = (leb-true _ _ both.0, (path_names (name ∷ rest)).0 both.1);
      text_is = slashes-behind (name ∷ rest) ∙ joined-parts_of 47 word [] (name ∷ rest) is;
    })
parts_text word ((b ∷ bs) ∷ rest) names is e = absurd (none-some _ e)

pub path_of-takes : (word : List ℕ) (names : List (List ℕ)) → path_of word ≡ Some names → IsPathText word names
unfolding path_of
path_of-takes word names e = chosen (bytes_eq word (47 ∷ [])) refl e where
  chosen : (b : Bool) → bytes_eq word (47 ∷ []) ≡ b → cond b (Some []) (names_behind (parts_of 47 word)) ≡ Some names → IsPathText word names
  chosen true is f =
      subst (λ (ns : List (List ℕ)). IsPathText word ns) (same_Some _ _ f)
      (record { names_are = (omega arith, λ k d lt. absurd (omega arith)); text_is = sym ((bytes_eq-Decides word (47 ∷ [])).0 is) })
  chosen false is f = parts_text word (parts_of 47 word) names refl f

not_root : (name : List ℕ) (names : List (List ℕ)) → IsPathName name → bytes_eq (text_of (name ∷ names)) (47 ∷ []) ≡ false
not_root [] names h = absurd (omega (arith, h.0))
not_root (b ∷ bs) names h = refl

pub path_of-again : (word : List ℕ) (names : List (List ℕ)) → IsPathText word names → path_of word ≡ Some names
unfolding path_of
path_of-again word [] h = rw (← h.text_is) refl
path_of-again word (name ∷ names) h =
    let all = h.names_are.1 in
    let root = not_root name names (All-head IsPathName name names all) in
    let without = names_slash_free (name ∷ names) all in
    let parts : parts_of 47 (text_of (name ∷ names)) ≡ [] ∷ name ∷ names =
    ap (λ (bytes : List ℕ). parts_of 47 bytes) (slashes-behind (name ∷ names)) ∙ parts_of-behind 47 name names without.0 without.1 in
    let few : nat_le (length (name ∷ names)) 64 ≡ true = le-leb _ _ h.names_are.0 in
    let good : list_all is_path_name (name ∷ names) ≡ true = (path_names (name ∷ names)).1 all in
    rw (← h.text_is, root, parts, few, good) refl

pub path_of-none : (word : List ℕ) → ((names : List (List ℕ)) → IsPathText word names → ⊥) → path_of word ≡ None
path_of-none word none = chosen (path_of word) refl where
  chosen : (o : Option (List (List ℕ))) → path_of word ≡ o → o ≡ None
  chosen None e = refl
  chosen (Some names) e = absurd (none names (path_of-takes word names e))
