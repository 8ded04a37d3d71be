-- How the text of a path is read, name by name, and that no other names have this text.
use Rattle.std.proofs.Common.{◌≡◌, ◌≢◌, ℕ, ◌+◌, ◌≤◌, ◌<◌, List, [], ◌∷◌, ◌++◌, length, take, drop, true, false, not, inl, inr, refl, sym, ◌∙◌, ap, subst, arith, append_assoc, append-nil, length-append}
use Rattle.std.specs.Prelude.{Some, None, All, IsTrue, nat_eq, nat_lt, unwrap_or, position}
use Rattle.std.specs.List.{position_or_len}
use Rattle.std.proofs.lemmas.Bool.{cases_Bool, cond-true, cond-false, eqb-true, eqb-false, ltb-false}
use Rattle.std.proofs.lemmas.List.Elements.{All-head, All-tail, All-nil, All-push}
use Rattle.std.proofs.lemmas.List.Sums.{prefix_len-le-length}
use Rattle.std.proofs.Math.Numerals.{one-add}
use Rattle.cfs_dir.specs.Name.{AreNameBytes, is_name_byte}
use Rattle.cfs_dir.specs.Path.{ArePathNames, IsPathName, BeginsWithSlash, behind_slashes, is_slash, IsPathText}

abbrev pub HasNoSlash : List ℕ → Type 0
HasNoSlash [] = Unit {0}
HasNoSlash (byte ∷ bytes) = (byte ≢ 47) × HasNoSlash bytes

-- empty, or `/` and more
abbrev pub IsRest : List ℕ → Type 0
IsRest [] = Unit {0}
IsRest (byte ∷ bytes) = byte ≡ 47

pub HasNoSlash-name : (bytes : List ℕ) → AreNameBytes bytes → HasNoSlash bytes
HasNoSlash-name [] h = tt
HasNoSlash-name (byte ∷ bytes) h = (
  λ e. (let t : is_name_byte byte ≡ true = All-head (λ b. IsTrue (is_name_byte b)) byte bytes h in
      let f : is_name_byte byte ≡ false = ap is_name_byte e in cc),
  HasNoSlash-name bytes (All-tail (λ b. IsTrue (is_name_byte b)) byte bytes h),
)

pub IsRest-behind : (names : List (List ℕ)) → IsRest (behind_slashes names)
IsRest-behind [] = tt
IsRest-behind (name ∷ names) = refl

-- a text is cut at its first `/` in one way
pub cut_once : (a rest_a b rest_b : List ℕ) → HasNoSlash a → HasNoSlash b → IsRest rest_a → IsRest rest_b → a ++ rest_a ≡ b ++ rest_b
    → (a ≡ b) × (rest_a ≡ rest_b)
cut_once [] rest_a [] rest_b na nb ra rb e = (refl, e)
cut_once [] rest_a (y ∷ ys) rest_b na nb ra rb e = absurd (nb.0 (subst IsRest e ra))
cut_once (x ∷ xs) rest_a [] rest_b na nb ra rb e = absurd (na.0 (subst IsRest (sym e) rb))
cut_once (x ∷ xs) rest_a (y ∷ ys) rest_b na nb ra rb e =
    let head : x ≡ y = cc in
    let tail : xs ++ rest_a ≡ ys ++ rest_b = cc in
    let deeper = cut_once xs rest_a ys rest_b na.1 nb.1 ra rb tail in
    (let same = deeper.0 in cc, deeper.1)

pub HasNoSlash-first : (bytes : List ℕ) → HasNoSlash (take (position_or_len is_slash bytes) bytes)
HasNoSlash-first [] = tt
HasNoSlash-first (byte ∷ bytes) = elim (cases_Bool (nat_eq byte 47)) [
  | inl t ↦ rw (cond-false (not (nat_eq byte 47)) (1 + position_or_len is_slash bytes) 0 (ap not t)) tt
  | inr f ↦ rw (cond-true (not (nat_eq byte 47)) (1 + position_or_len is_slash bytes) 0 (ap not f), one-add) (eqb-false byte 47 f, HasNoSlash-first bytes)
]

pub IsRest-first : (bytes : List ℕ) → IsRest (drop (position_or_len is_slash bytes) bytes)
IsRest-first [] = tt
IsRest-first (byte ∷ bytes) = elim (cases_Bool (nat_eq byte 47)) [
  | inl t ↦ rw (cond-false (not (nat_eq byte 47)) (1 + position_or_len is_slash bytes) 0 (ap not t)) (eqb-true byte 47 t)
  | inr f ↦ rw (cond-true (not (nat_eq byte 47)) (1 + position_or_len is_slash bytes) 0 (ap not f), one-add) (IsRest-first bytes)
]

pub behind_slashes-append : (xs ys : List (List ℕ)) → behind_slashes (xs ++ ys) ≡ behind_slashes xs ++ behind_slashes ys
behind_slashes-append [] ys = refl
behind_slashes-append (x ∷ xs) ys =
    ap (λ rest. 47 ∷ (x ++ rest)) (behind_slashes-append xs ys) ∙ ap (λ rest. 47 ∷ rest) (sym (append_assoc x (behind_slashes xs) (behind_slashes ys)))

pub All-append_right : (P : List ℕ → Type 0) (xs ys : List (List ℕ)) → All P (xs ++ ys) → All P ys
All-append_right P [] ys h = h
All-append_right P (x ∷ xs) ys h = All-append_right P xs ys (All-tail P x (xs ++ ys) h)

-- the names stand at the front of the text, and every reading of the text begins with them
pub record IsRead (text : List ℕ) (names : List (List ℕ)) (rest : List ℕ) : Type 0 where
  pub front : text ≡ behind_slashes names ++ rest
  pub valid : ArePathNames names
  pub only : (all : List (List ℕ)) → All IsPathName all → behind_slashes all ≡ text
      → (more : List (List ℕ)) × (all ≡ names ++ more) × (behind_slashes more ≡ rest)

pub read-start : (text : List ℕ) → IsRead text [] text
read-start text = record {
  front = refl;
  valid = (omega arith, All-nil IsPathName);
  only = λ all valid e. (all, refl, e);
}

-- what begins with `/` goes on with the bytes up to the next `/`
pub record IsCut (rest name after : List ℕ) : Type 0 where
  pub whole : rest ≡ 47 ∷ (name ++ after)
  pub first : name ≡ take (position_or_len is_slash (drop 1 rest)) (drop 1 rest)
  pub others : after ≡ drop (position_or_len is_slash (drop 1 rest)) (drop 1 rest)

-- so each reading goes on with that name
pub next_in : (text : List ℕ) (names : List (List ℕ)) (rest name after : List ℕ) → IsRead text names rest → IsCut rest name after
    → (all : List (List ℕ)) → All IsPathName all → behind_slashes all ≡ text
    → (more : List (List ℕ)) × (all ≡ names ++ (name ∷ more)) × (behind_slashes more ≡ after)
next_in text names rest name after h cut all valid e =
    let w = h.only all valid e in
    let no_slash : HasNoSlash name = subst HasNoSlash (sym cut.first) (HasNoSlash-first (drop 1 rest)) in
    let is_rest : IsRest after = subst IsRest (sym cut.others) (IsRest-first (drop 1 rest)) in
    elim (w.0) as (λ more. all ≡ names ++ more → behind_slashes more ≡ rest
    → (others : List (List ℕ)) × (all ≡ names ++ (name ∷ others)) × (behind_slashes others ≡ after)) [
      | [] ↦ λ is b. absurd (let x = cut.whole in cc)
      | m ∷ ms ↦ λ is b.
          let all_valid = All-append_right IsPathName names (m ∷ ms) (subst (All IsPathName) is valid) in
          let own = All-head IsPathName m ms all_valid in
          let text_is : 47 ∷ (m ++ behind_slashes ms) ≡ 47 ∷ (name ++ after) = b ∙ cut.whole in
          let tails : m ++ behind_slashes ms ≡ name ++ after = cc in
          let same = cut_once m (behind_slashes ms) name after (HasNoSlash-name m own.2) no_slash (IsRest-behind ms) is_rest tails in
          (ms, is ∙ ap (λ n. names ++ (n ∷ ms)) same.0, same.1)
    ] w.1 w.2

pub read-next : (text : List ℕ) (names : List (List ℕ)) (rest name after : List ℕ) → IsRead text names rest → IsCut rest name after
    → length names < 64 → IsPathName name → IsRead text (names ++ name ∷ []) after
read-next text names rest name after h cut room valid = record {
  front = h.front ∙ ap (λ r. behind_slashes names ++ r) cut.whole
      ∙ sym (ap (λ front. front ++ after) (behind_slashes-append names (name ∷ [])) ∙ append_assoc (behind_slashes names) (47 ∷ (name ++ [])) after
      ∙ ap (λ r. behind_slashes names ++ (47 ∷ r)) (append_assoc name [] after));
  valid = (let one = length-append names (name ∷ []) in omega arith, All-push IsPathName names name h.valid.1 valid);
  only = λ all all_valid e.
      let w = next_in text names rest name after h cut all all_valid e in
      (w.0, w.1 ∙ sym (append_assoc names (name ∷ []) w.0), w.2);
}

-- where the text is not `/`, its names stand behind slashes
pub behind_of : (text : List ℕ) (all : List (List ℕ)) → text ≢ 47 ∷ [] → IsPathText text all → (behind_slashes all ≡ text) × (all ≢ [])
behind_of text [] other is = absurd (other (sym is.text_is))
behind_of text (n ∷ ns) other is = (is.text_is, λ e. (cc))

pub bad-name : (text : List ℕ) (names : List (List ℕ)) (rest name after : List ℕ) → text ≢ 47 ∷ [] → IsRead text names rest → IsCut rest name after
    → ¬ IsPathName name → (all : List (List ℕ)) → ¬ IsPathText text all
bad-name text names rest name after other h cut bad all is =
    let b = behind_of text all other is in
    let w = next_in text names rest name after h cut all is.names_are.1 b.0 in
    bad (All-head IsPathName name w.0 (All-append_right IsPathName names (name ∷ w.0) (subst (All IsPathName) w.1 is.names_are.1)))

pub too-many : (text : List ℕ) (names : List (List ℕ)) (rest name after : List ℕ) → text ≢ 47 ∷ [] → IsRead text names rest → IsCut rest name after
    → 64 ≤ length names → (all : List (List ℕ)) → ¬ IsPathText text all
too-many text names rest name after other h cut full all is =
    let b = behind_of text all other is in
    let w = next_in text names rest name after h cut all is.names_are.1 b.0 in
    let most = is.names_are.0 in
    let long : length all ≡ length names + length (name ∷ w.0) = ap length w.1 ∙ length-append names (name ∷ w.0) in
    omega arith

-- where no more name begins, the reading ends
pub read-end : (text : List ℕ) (names : List (List ℕ)) (rest : List ℕ) → text ≢ 47 ∷ [] → IsRead text names rest → ¬ BeginsWithSlash rest
    → (all : List (List ℕ)) → IsPathText text all → (all ≡ names) × (rest ≡ []) × (all ≢ [])
read-end text names rest other h stuck all is =
    let b = behind_of text all other is in
    let w = h.only all is.names_are.1 b.0 in
    elim (w.0) as (λ more. all ≡ names ++ more → behind_slashes more ≡ rest → (all ≡ names) × (rest ≡ []) × (all ≢ [])) [
      | [] ↦ λ e r. (e ∙ append-nil names, sym r, b.1)
      | m ∷ ms ↦ λ e r. absurd (stuck (subst BeginsWithSlash r refl))
    ] w.1 w.2

pub read-whole : (text : List ℕ) (names : List (List ℕ)) → IsRead text names [] → names ≢ [] → IsPathText text names
read-whole text [] h some = absurd (some refl)
read-whole text (n ∷ ns) h some = record {
  names_are = h.valid;
  text_is = sym (h.front ∙ append-nil (behind_slashes (n ∷ ns)));
}

pub unwrap_or-position : (bytes : List ℕ) → unwrap_or (position is_slash bytes) (length bytes) ≡ position_or_len is_slash bytes
unwrap_or-position bytes = elim (cases_Bool (nat_lt (position_or_len is_slash bytes) (length bytes))) [
  | inl t ↦ ap (λ o. unwrap_or o (length bytes)) (cond-true (nat_lt (position_or_len is_slash bytes) (length bytes)) (Some (position_or_len is_slash bytes)) None t)
  | inr f ↦ ap (λ o. unwrap_or o (length bytes)) (cond-false (nat_lt (position_or_len is_slash bytes) (length bytes)) (Some (position_or_len is_slash bytes)) None f)
      ∙ (let low = ltb-false (position_or_len is_slash bytes) (length bytes) f in let high = prefix_len-le-length (λ b. not (is_slash b)) bytes in omega arith)
]
