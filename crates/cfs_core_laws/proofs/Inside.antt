-- One core's images are among another's.
use Rattle.std.proofs.Common.{◌≡◌, inl, inr, ℕ, suc, ◌-◌, ◌<◌, ◌==◌, Bool, true, false, ◌&&◌, ◌||◌, List, ◌∷◌, length, set, get_or, arith, refl, sym, ap, ◌∙◌, length-set, get_or-set_other}
use Rattle.std.specs.List.{Any, list_all, list_any, range_with_len}
use Rattle.std.proofs.lemmas.Grind.{get_or-set_at}
use Rattle.cfs_core.specs.declared.flag.Flag.{Flag}
use Rattle.cfs_core.specs.declared.flag.Flag.TheVariants.{Off, Unsure}
use Rattle.cfs_core.specs.declared.track.Track.{Track}
use Rattle.cfs_core.specs.declared.inode_core.Core.{Core}
use Rattle.cfs_core.specs.Words.{blank, can_be, track}
use Rattle.cfs_core.specs.Medium.{agree, are_bytes, bytes_agree, doubt_gate, gates_agree, is_loose, is_size, marks_agree}
use Rattle.cfs_core.proofs.Images.{all_in_range}
use Rattle.cfs_core.proofs.Kept.{at}
use Rattle.cfs_core.proofs.Legal.{and_all, both}
use Rattle.cfs_core.proofs.Order.{in_range, same_or_not, track_is}
use Rattle.cfs_core_laws.specs.Laws.{AreImagesOf}

-- ---- flags

-- what the one allows the other allows
abbrev pub Allows : Flag → Flag → Type 0
Allows small big = (b : Bool) → can_be small b ≡ true → can_be big b ≡ true

pub allows-same : (f : Flag) → Allows f f
allows-same f b h = h

pub allows-all : (f : Flag) → Allows f Unsure
allows-all f b h = refl

pub allows-is : (f g : Flag) → f ≡ g → Allows f g
allows-is f g same b h = rw (← same) h

-- ---- cores

pub record IsInside (small big : Core) : Type 0 where
  pub size : (s : ℕ) → is_size small s ≡ true → is_size big s ≡ true
  pub many_tags : length small.tags ≡ length big.tags
  pub tags : (k : ℕ) → Allows (get_or small.tags k Off) (get_or big.tags k Off)
  pub many_bytes : length small.bytes ≡ length big.bytes
  pub bytes : (p : ℕ) → is_loose big.loose p ≡ false →
      (is_loose small.loose p ≡ false) × (get_or small.bytes p 0 ≡ get_or big.bytes p 0)
  pub many : length small.tracks ≡ length big.tracks
  pub gates : (k : ℕ) → Allows (at small k).gate (at big k).gate
  pub marks : (k : ℕ) → Allows (at small k).mark (at big k).mark
  pub doubt : Allows (doubt_gate small.doubt) (doubt_gate big.doubt)

-- a list of bits of which each is allowed
bits-of : (small big : ℕ → Flag) (bits : List Bool) (count other : ℕ) → count ≡ other →
    ((k : ℕ) → Allows (small k) (big k)) →
    ((length bits == count) && list_all (λ k. can_be (small k) (get_or bits k false))
    (range_with_len 0 count)) ≡ true →
    ((length bits == other) && list_all (λ k. can_be (big k) (get_or bits k false))
    (range_with_len 0 other)) ≡ true
bits-of small big bits count other same each h =
    let parts = both (length bits == count)
    (list_all (λ k. can_be (small k) (get_or bits k false)) (range_with_len 0 count)) h in
    rw (← same) (and_all (length bits == count) _ parts.0
    (all_in_range (λ k. can_be (big k) (get_or bits k false)) 0 count
    (λ k low high. each k (get_or bits k false)
    (in_range (λ j. can_be (small j) (get_or bits j false)) 0 count k parts.1 low high))))

bytes-of : (small big : Core) → IsInside small big → (bytes : List ℕ) →
    bytes_agree small bytes ≡ true → bytes_agree big bytes ≡ true
bytes-of small big inside bytes h =
    let parts = both (length bytes == length small.bytes) (are_bytes small.loose small.bytes bytes)
    h in
    and_all (length bytes == length big.bytes) (are_bytes big.loose big.bytes bytes)
    (rw (← inside.many_bytes) parts.0)
    (all_in_range (λ p. is_loose big.loose p || (get_or bytes p 0 == get_or big.bytes p 0)) 0
    (length big.bytes) (λ p low high. each p parts.1 (omega (arith, inside.many_bytes))))
  where
    each : (p : ℕ) → are_bytes small.loose small.bytes bytes ≡ true → p < length small.bytes →
        (is_loose big.loose p || (get_or bytes p 0 == get_or big.bytes p 0)) ≡ true
    each p all less = by (is_loose big.loose p) refl
      where
        by : (b : Bool) → is_loose big.loose p ≡ b →
            (b || (get_or bytes p 0 == get_or big.bytes p 0)) ≡ true
        by true is = refl
        by false is =
            let own = inside.bytes p is in
            let test =
            in_range (λ q. is_loose small.loose q ||
            (get_or bytes q 0 == get_or small.bytes q 0)) 0 (length small.bytes) p all
            (omega arith) (omega arith) in
            let here : (get_or bytes p 0 == get_or small.bytes p 0) ≡ true = rw own.0 at test in
            rw (← own.1) here

pub inside-images : (small big : Core) → IsInside small big → AreImagesOf small big
inside-images small big inside image h =
    let a = both (is_size small image.size)
    (agree small.tags image.tags &&
    (bytes_agree small image.bytes &&
    (gates_agree small.tracks image.gates &&
    (marks_agree small.tracks image.marks && can_be (doubt_gate small.doubt) image.doubt)))) h
    in
    let b = both (agree small.tags image.tags)
    (bytes_agree small image.bytes &&
    (gates_agree small.tracks image.gates &&
    (marks_agree small.tracks image.marks && can_be (doubt_gate small.doubt) image.doubt))) a.1
    in
    let c = both (bytes_agree small image.bytes)
    (gates_agree small.tracks image.gates &&
    (marks_agree small.tracks image.marks && can_be (doubt_gate small.doubt) image.doubt)) b.1
    in
    let d = both (gates_agree small.tracks image.gates)
    (marks_agree small.tracks image.marks && can_be (doubt_gate small.doubt) image.doubt) c.1 in
    let e = both (marks_agree small.tracks image.marks)
    (can_be (doubt_gate small.doubt) image.doubt) d.1 in
    and_all _ _ (inside.size image.size a.0)
    (and_all _ _ (bits-of (λ k. get_or small.tags k Off) (λ k. get_or big.tags k Off) image.tags
    (length small.tags) (length big.tags) inside.many_tags inside.tags b.0)
    (and_all _ _ (bytes-of small big inside image.bytes c.0)
    (and_all _ _
    (bits-of (λ k. (get_or small.tracks k blank).gate) (λ k. (get_or big.tracks k blank).gate)
    image.gates (length small.tracks) (length big.tracks) inside.many inside.gates d.0)
    (and_all _ _
    (bits-of (λ k. (get_or small.tracks k blank).mark) (λ k. (get_or big.tracks k blank).mark)
    image.marks (length small.tracks) (length big.tracks) inside.many inside.marks e.0)
    (inside.doubt image.doubt e.1)))))

pub same-images : (core : Core) → AreImagesOf core core
same-images core image h = h

-- ---- a gate and a mark at one place

-- the lists differ at the place alone, where the gate and the mark are these
pub record IsAt (old new : List Track) (place : ℕ) (gate mark : Flag) : Type 0 where
  pub many : length new ≡ length old
  pub gate_is : (get_or new (place - 1) blank).gate ≡ gate
  pub mark_is : (get_or new (place - 1) blank).mark ≡ mark
  pub others : (k : ℕ) → (k ≡ place - 1 → ⊥) → get_or new k blank ≡ get_or old k blank

pub at-start : (tracks : List Track) (place : ℕ) → (place ≡ 0 → ⊥) →
    IsAt tracks tracks place (track tracks place).gate (track tracks place).mark
at-start tracks place some =
    let here : track tracks place ≡ get_or tracks (place - 1) blank =
    track_is tracks place (place - 1) some refl in
    record { many = refl; gate_is = rw here refl; mark_is = rw here refl; others = λ k apart. refl }

pub at-put : (tracks : List Track) (place : ℕ) (t : Track) → place - 1 < length tracks →
    IsAt tracks (set tracks (place - 1) t) place t.gate t.mark
at-put tracks place t within =
    let now : get_or (set tracks (place - 1) t) (place - 1) blank ≡ t =
    get_or-set_at tracks (place - 1) (place - 1) t blank refl within in
    record {
      many = length-set tracks (place - 1) t;
      gate_is = rw now refl;
      mark_is = rw now refl;
      others = λ k apart. get_or-set_other tracks (place - 1) k t blank apart;
    }

-- another gate, or another mark
pub at-gate : (old new : List Track) (place : ℕ) (gate mark other : Flag) → (place ≡ 0 → ⊥) →
    place - 1 < length old → IsAt old new place gate mark →
    IsAt old (set new (place - 1) (record (track new place) { gate = other })) place other mark
at-gate old new place gate mark other some within was =
    let t : Track = record (track new place) { gate = other } in
    let there : place - 1 < length new = omega (arith, was.many) in
    let here : track new place ≡ get_or new (place - 1) blank = track_is new place (place - 1) some
    refl in
    let next = at-put new place t there in
    record {
      many = next.many ∙ was.many;
      gate_is = next.gate_is;
      mark_is = next.mark_is ∙ (ap (λ (x : Track). x.mark) here ∙ was.mark_is);
      others = λ k apart. next.others k apart ∙ was.others k apart;
    }

pub at-mark : (old new : List Track) (place : ℕ) (gate mark other : Flag) → (place ≡ 0 → ⊥) →
    place - 1 < length old → IsAt old new place gate mark →
    IsAt old (set new (place - 1) (record (track new place) { mark = other })) place gate other
at-mark old new place gate mark other some within was =
    let t : Track = record (track new place) { mark = other } in
    let there : place - 1 < length new = omega (arith, was.many) in
    let here : track new place ≡ get_or new (place - 1) blank = track_is new place (place - 1) some
    refl in
    let next = at-put new place t there in
    record {
      many = next.many ∙ was.many;
      gate_is = next.gate_is ∙ (ap (λ (x : Track). x.gate) here ∙ was.gate_is);
      mark_is = next.mark_is;
      others = λ k apart. next.others k apart ∙ was.others k apart;
    }

gates-at : (old small big : List Track) (place : ℕ) (gate mark wider_gate wider_mark : Flag) →
    IsAt old small place gate mark → IsAt old big place wider_gate wider_mark →
    Allows gate wider_gate → Allows mark wider_mark → (k : ℕ) →
    Allows (get_or small k blank).gate (get_or big k blank).gate × Allows
    (get_or small k blank).mark (get_or big k blank).mark
gates-at old small big place gate mark wider_gate wider_mark one other gates marks k =
    elim (same_or_not k (place - 1)) [
      | inl here ↦ rw here (
        λ b h. rw other.gate_is (gates b (rw one.gate_is at h)),
        λ b h. rw other.mark_is (marks b (rw one.mark_is at h)),
      )
      | inr apart ↦
          let first = one.others k apart in
          let second = other.others k apart in
          (λ b h. rw second (rw first at h), λ b h. rw second (rw first at h))
    ]

-- cores that differ in the size word, and at one place
abbrev pub sized_core : Core → ℕ → List ℕ → List Track → Core
sized_core core size sizes tracks = record core { size = size; sizes = sizes; tracks = tracks }

-- what each size of the one is for the other
abbrev pub Sizes : ℕ → List ℕ → ℕ → List ℕ → Type 0
Sizes size sizes wider all = (s : ℕ) → ((s == size) || list_any (λ x. s == x) sizes) ≡ true →
    ((s == wider) || list_any (λ x. s == x) all) ≡ true

pub inside-at : (core : Core) (place : ℕ) (size wider : ℕ) (sizes all : List ℕ)
    (small big : List Track) (gate mark wider_gate wider_mark : Flag) → Sizes size sizes wider all →
    IsAt core.tracks small place gate mark → IsAt core.tracks big place wider_gate wider_mark →
    Allows gate wider_gate → Allows mark wider_mark →
    AreImagesOf (sized_core core size sizes small) (sized_core core wider all big)
inside-at core place size wider sizes all small big gate mark wider_gate wider_mark fit one other
    gates marks =
    inside-images (sized_core core size sizes small) (sized_core core wider all big) (record {
      size = fit;
      many_tags = refl;
      tags = λ k. allows-same (get_or core.tags k Off);
      many_bytes = refl;
      bytes = λ p calm. (calm, refl);
      many = one.many ∙ sym other.many;
      gates = λ k. (gates-at core.tracks small big place gate mark wider_gate wider_mark one other
          gates marks k).0;
      marks = λ k. (gates-at core.tracks small big place gate mark wider_gate wider_mark one other
          gates marks k).1;
      doubt = allows-same (doubt_gate core.doubt);
    })

pub any-0 : {A : Type 0} (P : A → Type 0) (x : A) (xs : List A) → P x → Any P (x ∷ xs)
any-0 P x xs h = (0, x, omega arith, refl, h)

pub any-next : {A : Type 0} (P : A → Type 0) (x : A) (xs : List A) → Any P xs → Any P (x ∷ xs)
any-next P x xs found = (suc found.0, found.1, omega (arith, found.2), found.3, found.4)
