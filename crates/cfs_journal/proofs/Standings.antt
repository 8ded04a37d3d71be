-- What stands in the journal's regions, as their images say it, and after one region is another.
use Rattle.std.specs.Option.{is_some}
use Rattle.std.proofs.Common.{true, ◌≡◌, ◌≢◌, ◌∙◌, inl, inr, ℕ, zero, suc, ◌+◌, ◌-◌, ◌%◌, ◌<◌, List, [], ◌∷◌, ◌++◌, length, map, get_or, replicate, Option, Some, None, Result, Err, refl, sym, ap, subst, arith}
use Rattle.std.proofs.Math.ListN.{set}
use Rattle.std.specs.List.{slice_get}
use Rattle.std.proofs.lemmas.Bool.{cases_eq}
use Rattle.std.proofs.lemmas.List.{get_or-map, get_or-set_other, get_or-set_same, length-append, length-map, length-set, map-set, set-get_or, set-set}
use Rattle.std.proofs.lemmas.Option.{slice_get_within}
use Rattle.cfs_dir.specs.declared.change.Change.{Change}
use Rattle.cfs_dir.specs.Change.{IsTellable}
use Rattle.cfs_pmem.specs.AllMoments.{AreDistinct}
use Rattle.cfs_pmem.specs.Images.{Seen, WordStep, devices_of, words_of, wrote, kept, AllImages, IsImage, IsSetFrom, IsSure}
use Rattle.cfs_pmem.specs.Faults.{HasCause}
use Rattle.cfs_pmem.specs.Moments.{Moments}
use Rattle.cfs_pmem.specs.Objects.{seen_at, all_devices, IsEachImage, IsImageBut, MomentsOf}
use Rattle.cfs_pmem.specs.WordOps.{set_ops}
use Rattle.cfs_pmem.specs.declared.trace.Asked.{Asked}
use Rattle.cfs_pmem.proofs.AllMomentLemmas.{all_weaker}
use Rattle.cfs_pmem.proofs.ImageLemmas.{now_is_image}
use Rattle.cfs_pmem.proofs.ObjectLemmas.{one_of, seen_at-map, seen_at-set, map-see-set}
use Rattle.cfs_journal.specs.Records.{IsRecordFrom, Tells, gate_of, record_words}
use Rattle.cfs_journal.specs.Appends.{closing_ops}
use Rattle.cfs_journal.specs.Journals.{faults_at}
use Rattle.cfs_journal.specs.Standing.{place, AreBlank, Gives, IsNext, IsSpent, Standing}
use Rattle.cfs_journal.proofs.Walks.{Held, gives, record_tells}

-- ---- one image of each region

each_at : (seens : List (Seen WordStep)) (images : List (List ℕ)) (p : ℕ) → IsEachImage IsImage seens images → p < length seens → IsImage (seen_at seens p).history (get_or images p [])
each_at [] images p all l = absurd (omega arith)
each_at (seen ∷ rest) [] p all l = absurd all
each_at (seen ∷ rest) (image ∷ images) zero all l = all.0
each_at (seen ∷ rest) (image ∷ images) (suc p) all l = each_at rest images p all.1 (omega arith)

but_at : (P : List ℕ → Type 0) (seens : List (Seen WordStep)) (images : List (List ℕ)) (at p : ℕ) → IsImageBut IsImage P at seens images → p < length seens → p ≢ at → IsImage (seen_at seens p).history (get_or images p [])
but_at P [] images at p all l other = absurd (omega arith)
but_at P (seen ∷ rest) [] at p all l other = absurd all
but_at P (seen ∷ rest) (image ∷ images) zero zero all l other = absurd (other refl)
but_at P (seen ∷ rest) (image ∷ images) zero (suc p) all l other = each_at rest images p all.1 (omega arith)
but_at P (seen ∷ rest) (image ∷ images) (suc at) zero all l other = all.0
but_at P (seen ∷ rest) (image ∷ images) (suc at) (suc p) all l other = but_at P rest images at p all.1 (omega arith) (λ is. other (ap (λ (k : ℕ). suc k) is))

but_here : (P : List ℕ → Type 0) (seens : List (Seen WordStep)) (images : List (List ℕ)) (at : ℕ) → IsImageBut IsImage P at seens images → P (get_or images at [])
but_here P [] images at all = absurd all
but_here P (seen ∷ rest) [] at all = absurd all
but_here P (seen ∷ rest) (image ∷ images) zero all = all.0
but_here P (seen ∷ rest) (image ∷ images) (suc at) all = but_here P rest images at all.1

-- ---- what they hold

pub held_of : {through : ℕ} {changes : List Change} {doubt : Option Change} {seens : List (Seen WordStep)} → Standing through changes doubt seens
    → (images : List (List ℕ)) → IsEachImage IsImage seens images → Held through changes doubt images
held_of {through} {changes} {doubt} {seens} s images all = record {
  few = s.few;
  told_doubt = s.told_doubt;
  live = λ k change is. s.live k change is (get_or images (place through k) []) (at (place through k) (omega arith));
  next = λ less. s.next less (get_or images (place through (length changes)) []) (at (place through (length changes)) (omega arith));
  spent = λ k above below. (s.spent k above below (get_or images (place through k) []) (at (place through k) (omega arith))).low;
}
  where
    at : (p : ℕ) → p < 64 → IsImage (seen_at seens p).history (get_or images p [])
    at p l = each_at seens images p all (omega (arith, l, s.size))

-- the same, where the next region is under way
pub held_but : {through : ℕ} {changes : List Change} {old doubt : Option Change} {seens : List (Seen WordStep)} {P : List ℕ → Type 0} → Standing through changes old seens
    → length changes < 64 → ((change : Change) → doubt ≡ Some change → IsTellable change)
    → ((image : List ℕ) → P image → IsNext through (through + length changes + 1) (place through (length changes)) doubt image)
    → (images : List (List ℕ)) → IsImageBut IsImage P (place through (length changes)) seens images → Held through changes doubt images
held_but {through} {changes} {old} {doubt} {seens} {P} s less told next images all = record {
  few = s.few;
  told_doubt = told;
  live = λ k change is.
      let within : k < length changes = slice_get_within changes k change is in
      s.live k change is (get_or images (place through k) []) (at (place through k) (omega arith) (λ same. omega (arith, same, within, less)));
  next = λ l. next (get_or images (place through (length changes)) []) (but_here P seens images (place through (length changes)) all);
  spent = λ k above below. (s.spent k above below (get_or images (place through k) []) (at (place through k) (omega arith) (λ same. omega (arith, same, above, below)))).low;
}
  where
    at : (p : ℕ) → p < 64 → p ≢ place through (length changes) → IsImage (seen_at seens p).history (get_or images p [])
    at p l other = but_at P seens images (place through (length changes)) p all (omega (arith, l, s.size)) other

-- ---- after the next region is another one

other_at : (seens : List (Seen WordStep)) (at p : ℕ) (new : Seen WordStep) → p ≢ at → seen_at (set seens at new) p ≡ seen_at seens p
other_at seens at p new other = get_or-set_other seens at p new record { device = 0; also = []; history = [] } other

here_at : (seens : List (Seen WordStep)) (at : ℕ) (new : Seen WordStep) → at < length seens → seen_at (set seens at new) at ≡ new
here_at seens at new l = get_or-set_same seens at new record { device = 0; also = []; history = [] } l

-- the device numbers stay
devices_stay : (seens : List (Seen WordStep)) (at : ℕ) (new : Seen WordStep) → devices_of new ≡ devices_of (seen_at seens at) → all_devices (set seens at new) ≡ all_devices seens
devices_stay seens at new same =
    map-set devices_of seens at new ∙ (ap (λ (ds : List ℕ). set (map devices_of seens) at ds) same
    ∙ (sym (map-set devices_of seens at (seen_at seens at)) ∙ ap (λ (ss : List (Seen WordStep)). map devices_of ss) (set-get_or seens at record { device = 0; also = []; history = [] })))

pub renewed : {through : ℕ} {changes : List Change} {old doubt : Option Change} {seens : List (Seen WordStep)} (new : Seen WordStep) → Standing through changes old seens
    → length changes < 64 → ((change : Change) → doubt ≡ Some change → IsTellable change) → length (words_of new) ≡ 16
    → devices_of new ≡ devices_of (seen_at seens (place through (length changes)))
    → AllImages new (IsNext through (through + length changes + 1) (place through (length changes)) doubt)
    → Standing through changes doubt (set seens (place through (length changes)) new)
renewed {through} {changes} {old} {doubt} {seens} new s less told words devices next = record {
  size = length-set seens at new ∙ s.size;
  few = s.few;
  low = s.low;
  room_for_doubt = λ some. less;
  words = λ p l. elim (cases_eq p at) [
    | inl here ↦ subst (λ q. length (words_of (seen_at (set seens at new) q)) ≡ 16) (sym here)
        (ap (λ (x : Seen WordStep). length (words_of x)) (here_at seens at new within) ∙ words)
    | inr other ↦ ap (λ (x : Seen WordStep). length (words_of x)) (other_at seens at p new other) ∙ s.words p l
  ];
  distinct = subst AreDistinct (sym (devices_stay seens at new devices)) s.distinct;
  told_doubt = told;
  live = λ k change is.
      let inside : k < length changes = slice_get_within changes k change is in
      subst (λ x. AllImages x (Tells (through + k + 1) change))
      (sym (other_at seens at (place through k) new (λ same. omega (arith, same, inside, less)))) (s.live k change is);
  next = λ l. subst (λ x. AllImages x (IsNext through (through + length changes + 1) at doubt)) (sym (here_at seens at new within)) next;
  spent = λ k above below. subst (λ x. AllImages x (IsSpent through (place through k)))
      (sym (other_at seens at (place through k) new (λ same. omega (arith, same, above, below)))) (s.spent k above below);
}
  where
    at : ℕ
    at = place through (length changes)

    within : at < length seens
    within = omega (arith, s.size)

-- ---- a closed gate

-- with the gate at 0 nothing is there
pub next_closed : (through number position : ℕ) (doubt : Option Change) (image : List ℕ) → gate_of image ≡ 0 → 0 < number → IsNext through number position doubt image
next_closed through number position doubt image closed some = record {
  opened = λ is. absurd (omega (arith, closed, is, some));
  shut = λ other. record { low = omega (arith, closed); placed = λ open_gate. absurd (open_gate closed) };
}

-- a gate that is set to 0, or not yet
pub next_closing : (through number position : ℕ) (doubt : Option Change) (old : Seen WordStep) → 0 < number → length (words_of old) ≡ 16
    → AllImages old (IsNext through number position doubt) → (image : List ℕ) → IsSetFrom old 0 0 image → IsNext through number position doubt image
next_closing through number position doubt old some size next image h = elim h.same [
  | inl same ↦ subst (IsNext through number position doubt) (sym same) (next h.first h.possible)
  | inr closed ↦ next_closed through number position doubt image
      (ap (λ (ws : List ℕ). gate_of ws) closed ∙ get_or-set_same h.first 0 0 0 (omega (arith, h.possible.size, size))) some
]

-- ---- a call on the next region, among all of them

-- at each moment the records give what the next region's images say
pub next_moments : {R : Type 0} {through : ℕ} {changes : List Change} {old doubt : Option Change} {P : List ℕ → Type 0} {asked_old asked_new : List Asked}
    (see : R → Seen WordStep) (items : List R) (at : ℕ) (item new : R) → Standing through changes old (map see items)
    → length changes < 64 → at ≡ place through (length changes) → item ≡ get_or items at item
    → ((change : Change) → doubt ≡ Some change → IsTellable change)
    → ((image : List ℕ) → P image → IsNext through (through + length changes + 1) at doubt image)
    → Moments IsImage P asked_old (see item) asked_new (see new)
    → MomentsOf IsImage (Gives through changes doubt) asked_old (map see items) asked_new (map see (set items at new))
next_moments {R} {through} {changes} {old} {doubt} {P} {asked_old} {asked_new} see items at item new s less here is told next m =
    let within : at < length items = omega (arith, here, s.size, length-map items see) in
    let was : seen_at (map see items) at ≡ see item = seen_at-map see items at item within ∙ ap see (sym is) in
    let moments : MomentsOf IsImage (IsImageBut IsImage P at (map see items)) asked_old (map see items) asked_new (set (map see items) at (see new)) =
    one_of (map see items) at (omega (arith, within, length-map items see)) s.distinct (subst (λ x. Moments IsImage P asked_old x asked_new (see new)) (sym was) m) in
    subst (λ xs. MomentsOf IsImage (Gives through changes doubt) asked_old (map see items) asked_new xs) (sym (map-see-set see items at new))
    (all_weaker (λ images all. gives (held_but s less told
    (λ image p. subst (λ q. IsNext through (through + length changes + 1) q doubt image) here (next image p))
    images (subst (λ q. IsImageBut IsImage P q (map see items) images) here all))) moments)

-- and behind it this stands
pub next_stands : {R : Type 0} {through : ℕ} {changes : List Change} {old doubt : Option Change} {P : List ℕ → Type 0} {asked_old asked_new : List Asked}
    (see : R → Seen WordStep) (items : List R) (at : ℕ) (item new : R) → Standing through changes old (map see items)
    → length changes < 64 → at ≡ place through (length changes) → item ≡ get_or items at item
    → ((change : Change) → doubt ≡ Some change → IsTellable change) → length (words_of (see new)) ≡ 16
    → Moments IsImage P asked_old (see item) asked_new (see new)
    → AllImages (see new) (IsNext through (through + length changes + 1) at doubt)
    → Standing through changes doubt (map see (set items at new))
next_stands {R} {through} {changes} {old} {doubt} see items at item new s less here is told size m next =
    let within : at < length items = omega (arith, here, s.size, length-map items see) in
    let was : seen_at (map see items) at ≡ see item = seen_at-map see items at item within ∙ ap see (sym is) in
    let devices : devices_of (see new) ≡ devices_of (seen_at (map see items) at) =
    ap (λ (n : ℕ). n ∷ (see new).also) m.same ∙ ap (λ (ns : List ℕ). (see item).device ∷ ns) m.same_also ∙ ap (λ (x : Seen WordStep). devices_of x) (sym was) in
    subst (λ xs. Standing through changes doubt xs) (sym (map-see-set see items at new))
    (subst (λ q. Standing through changes doubt (set (map see items) q (see new))) (sym here)
    (renewed (see new) s less told size (subst (λ q. devices_of (see new) ≡ devices_of (seen_at (map see items) q)) here devices)
    (subst (λ q. AllImages (see new) (IsNext through (through + length changes + 1) q doubt)) here next)))

-- what the next region holds before the call
pub next_here : {R : Type 0} {through : ℕ} {changes : List Change} {doubt : Option Change} (see : R → Seen WordStep) (items : List R) (at : ℕ) (item : R)
    → Standing through changes doubt (map see items) → length changes < 64 → at ≡ place through (length changes) → item ≡ get_or items at item
    → AllImages (see item) (IsNext through (through + length changes + 1) at doubt)
next_here {R} {through} {changes} {doubt} see items at item s less here is =
    let within : at < length items = omega (arith, here, s.size, length-map items see) in
    let was : seen_at (map see items) at ≡ see item = seen_at-map see items at item within ∙ ap see (sym is) in
    subst (λ x. AllImages x (IsNext through (through + length changes + 1) at doubt)) was
    (subst (λ q. AllImages (seen_at (map see items) q) (IsNext through (through + length changes + 1) q doubt)) (sym here) (s.next less))

pub words_here : {R : Type 0} {through : ℕ} {changes : List Change} {doubt : Option Change} (see : R → Seen WordStep) (items : List R) (at : ℕ) (item : R)
    → Standing through changes doubt (map see items) → at < 64 → item ≡ get_or items at item → length (words_of (see item)) ≡ 16
words_here see items at item s below is =
    let within : at < length items = omega (arith, below, s.size, length-map items see) in
    ap (λ (x : Seen WordStep). length (words_of x)) (sym (seen_at-map see items at item within ∙ ap see (sym is))) ∙ s.words at below

-- a gate that was closed
pub closed_next : (through number position : ℕ) (doubt : Option Change) (old : Seen WordStep) {new : Seen WordStep} → 0 < number → length (words_of old) ≡ 16
    → new ≡ kept (wrote 0 0 old) → IsSure new → AllImages new (IsNext through number position doubt)
closed_next through number position doubt old {new} some size is sure = λ image possible.
    next_closed through number position doubt image
    (ap (λ (ws : List ℕ). gate_of ws) (sure image possible ∙ ap (λ (x : Seen WordStep). words_of x) is) ∙ get_or-set_same (words_of old) 0 0 0 (omega (arith, size))) some

-- where a change is in doubt, a record is free
pub doubt_less : {through : ℕ} {changes : List Change} {doubt : Option Change} {seens : List (Seen WordStep)} → Standing through changes doubt seens → is_some doubt ≡ true → length changes < 64
doubt_less {doubt = None} s some = cc
doubt_less {doubt = Some change} s some = s.room_for_doubt (λ none. cc)

-- ---- a record that is written

-- while it is written, the gate is one that was spent, or the record stands whole
pub next_writing : (through number position : ℕ) (change : Change) (old : Seen WordStep)
    → AllImages old (IsNext through number position None) → (image : List ℕ) → IsRecordFrom old number change image → IsNext through number position (Some change) image
next_writing through number position change old next image h = elim h [
  | inl before ↦
      let was : IsNext through number position None before.first = next before.first before.possible in
      let other : gate_of before.first ≢ number = λ is. (let none : Some before.first ≡ None = was.opened is in cc) in
      let spent : IsSpent through position before.first = was.shut other in
      record {
        opened = λ is. absurd (other (sym before.gate ∙ is));
        shut = λ no. record {
          low = omega (arith, before.gate, spent.low);
          placed = λ some. ap (λ (g : ℕ). (g - 1) % 64) before.gate ∙ spent.placed (λ zero_gate. some (before.gate ∙ zero_gate));
        };
      }
  | inr whole ↦ record {
    opened = λ is. ap (λ (ws : List ℕ). Some ws) whole;
    shut = λ no. absurd (no (ap (λ (ws : List ℕ). gate_of ws) whole));
  }
]

-- a spent record is not the next one
spent_next : (through number position : ℕ) (image : List ℕ) → through < number → IsSpent through position image → IsNext through number position None image
spent_next through number position image above spent = record {
  opened = λ is. absurd (omega (arith, is, above, spent.low));
  shut = λ other. spent;
}

-- the elements of a list with one more at its end
last_at : (changes : List Change) (change x : Change) → slice_get (changes ++ change ∷ []) (length changes) ≡ Some x → x ≡ change
last_at [] change x is = cc
last_at (first ∷ changes) change x is = last_at changes change x is

earlier_at : (changes : List Change) (change x : Change) (k : ℕ) → k ≢ length changes → slice_get (changes ++ change ∷ []) k ≡ Some x → slice_get changes k ≡ Some x
earlier_at [] change x zero other is = absurd (other refl)
earlier_at [] change x (suc k) other is = cc
earlier_at (first ∷ changes) change x zero other is = is
earlier_at (first ∷ changes) change x (suc k) other is = earlier_at changes change x k (λ same. other (ap (λ (n : ℕ). suc n) same)) is

-- with one more change
pub grown : {through : ℕ} {changes : List Change} {seens : List (Seen WordStep)} (change : Change) (new : Seen WordStep) → Standing through changes None seens
    → length changes < 64 → IsTellable change → length (words_of new) ≡ 16
    → devices_of new ≡ devices_of (seen_at seens (place through (length changes)))
    → AllImages new (λ image. image ≡ record_words (through + length changes + 1) change)
    → Standing through (changes ++ change ∷ []) None (set seens (place through (length changes)) new)
grown {through} {changes} {seens} change new s less tellable words devices stands = record {
  size = length-set seens at new ∙ s.size;
  few = omega (arith, longer, less);
  low = s.low;
  room_for_doubt = λ some. absurd (some refl);
  words = λ p l. elim (cases_eq p at) [
    | inl here ↦ subst (λ q. length (words_of (seen_at (set seens at new) q)) ≡ 16) (sym here)
        (ap (λ (x : Seen WordStep). length (words_of x)) (here_at seens at new within) ∙ words)
    | inr other ↦ ap (λ (x : Seen WordStep). length (words_of x)) (other_at seens at p new other) ∙ s.words p l
  ];
  distinct = subst AreDistinct (sym (devices_stay seens at new devices)) s.distinct;
  told_doubt = λ x is. cc;
  live = λ k x is. elim (cases_eq k (length changes)) [
    | inl last ↦
        let same : x ≡ change = own k x last is in
        let number : ℕ = through + length changes + 1 in
        subst (λ j. AllImages (seen_at (set seens at new) (place through j))
        (Tells (through + j + 1) x)) (sym last)
        (subst (λ y. AllImages y (Tells number x)) (sym (here_at seens at new within))
        (λ image possible. record_tells number x image (subst IsTellable (sym same) tellable)
        (stands image possible ∙ ap (λ (c : Change). record_words number c) (sym same))))
    | inr earlier ↦
        let was : slice_get changes k ≡ Some x = before k x earlier is in
        let inside : k < length changes = slice_get_within changes k x was in
        subst (λ y. AllImages y (Tells (through + k + 1) x))
        (sym (other_at seens at (place through k) new (λ same. omega (arith, same, inside, less)))) (s.live k x was)
  ];
  next = λ more.
      let k : ℕ = length (changes ++ change ∷ []) in
      subst (λ y. AllImages y (IsNext through (through + k + 1) (place through k) None))
      (sym (other_at seens at (place through k) new (λ same. omega (arith, same, longer, more))))
      (λ image possible. spent_next through (through + k + 1) (place through k) image (omega arith) (s.spent k (omega (arith, longer)) more image possible));
  spent = λ k above below. subst (λ x. AllImages x (IsSpent through (place through k)))
      (sym (other_at seens at (place through k) new (λ same. omega (arith, same, above, below, longer)))) (s.spent k (omega (arith, longer, above)) below);
}
  where
    at : ℕ
    at = place through (length changes)

    within : at < length seens
    within = omega (arith, s.size)

    longer : length (changes ++ change ∷ []) ≡ length changes + 1
    longer = length-append changes (change ∷ [])

    own : (k : ℕ) (x : Change) → k ≡ length changes → slice_get (changes ++ change ∷ []) k ≡ Some x → x ≡ change
    own k x last is = last_at changes change x (subst (λ n. slice_get (changes ++ change ∷ []) n ≡ Some x) last is)

    before : (k : ℕ) (x : Change) → k ≢ length changes → slice_get (changes ++ change ∷ []) k ≡ Some x → slice_get changes k ≡ Some x
    before k x other is = earlier_at changes change x k other is

-- and among all regions
pub next_grown : {R : Type 0} {through : ℕ} {changes : List Change} {P : List ℕ → Type 0} {asked_old asked_new : List Asked}
    (see : R → Seen WordStep) (items : List R) (at : ℕ) (item new : R) (change : Change) → Standing through changes None (map see items)
    → length changes < 64 → at ≡ place through (length changes) → item ≡ get_or items at item → IsTellable change
    → length (words_of (see new)) ≡ 16 → Moments IsImage P asked_old (see item) asked_new (see new)
    → IsSure (see new) → words_of (see new) ≡ record_words (through + length changes + 1) change
    → Standing through (changes ++ change ∷ []) None (map see (set items at new))
next_grown {R} {through} {changes} see items at item new change s less here is tellable size m sure words =
    let within : at < length items = omega (arith, here, s.size, length-map items see) in
    let was : seen_at (map see items) at ≡ see item = seen_at-map see items at item within ∙ ap see (sym is) in
    let devices : devices_of (see new) ≡ devices_of (seen_at (map see items) at) =
    ap (λ (n : ℕ). n ∷ (see new).also) m.same ∙ ap (λ (ns : List ℕ). (see item).device ∷ ns) m.same_also ∙ ap (λ (x : Seen WordStep). devices_of x) (sym was) in
    subst (λ xs. Standing through (changes ++ change ∷ []) None xs) (sym (map-see-set see items at new))
    (subst (λ q. Standing through (changes ++ change ∷ []) None (set (map see items) q (see new))) (sym here)
    (grown change (see new) s less tellable size (subst (λ q. devices_of (see new) ≡ devices_of (seen_at (map see items) q)) here devices)
    (λ image possible. sure image possible ∙ words)))

-- ---- a call on one region, as a call on that among all

pub at_place : {R : Type 0} (P : Seen WordStep → Seen WordStep → Type 0) (see : R → Seen WordStep) (items : List R) (at p : ℕ) (item new : R) → at ≡ p → at < length items → item ≡ get_or items at item
    → P (see item) (see new) → P (seen_at (map see items) p) (seen_at (map see (set items at new)) p)
at_place P see items at p item new here within is h =
    subst (λ q. P (seen_at (map see items) q) (seen_at (map see (set items at new)) q)) here
    (subst (λ x. P x (seen_at (map see (set items at new)) at)) (sym (seen_at-map see items at item within ∙ ap see (sym is)))
    (subst (λ x. P (see item) x) (sym (seen_at-set see items at new within)) h))

pub others_stay : {R : Type 0} (see : R → Seen WordStep) (items : List R) (at p : ℕ) (new : R) → at ≡ p → at < length items
    → map see (set items at new) ≡ set (map see items) p (seen_at (map see (set items at new)) p)
others_stay see items at p new here within =
    subst (λ q. map see (set items at new) ≡ set (map see items) q (seen_at (map see (set items at new)) q)) here
    (map-see-set see items at new ∙ ap (λ s. set (map see items) at s) (sym (seen_at-set see items at new within)))

pub cause_at : {R T E : Type 0} {result : Result T E} (faults : R → ℕ) (items : List R) (at p : ℕ) (item new : R) → at ≡ p → at < length items → item ≡ get_or items at item
    → HasCause (faults item) (faults new) result → HasCause (faults_at faults p items) (faults_at faults p (set items at new)) result
cause_at {R} {T} {E} {result} faults items at p item new here within is h =
    let was : faults_at faults at items ≡ faults item = get_or-map faults items at item 0 within ∙ ap faults (sym is) in
    let now : faults_at faults at (set items at new) ≡ faults new =
    ap (λ (ns : List ℕ). get_or ns at 0) (map-set faults items at new) ∙ get_or-set_same (map faults items) at (faults new) 0 (omega (arith, length-map items faults, within)) in
    subst (λ q. HasCause (faults_at faults q items) (faults_at faults q (set items at new)) result) here
    (subst (λ n. HasCause n (faults_at faults at (set items at new)) result) (sym was) (subst (λ n. HasCause (faults item) n result) (sym now) h))

-- a cause of the same failure under another name
pub cause_again : {T U E F : Type 0} {result : Result T E} {before now : ℕ} (e : E) (f : F) → result ≡ Err e → HasCause {T = U} before now (Err f) → HasCause before now result
cause_again {T} {U} {E} {F} {result} {before} {now} e f is h = subst (λ r. HasCause before now r) (sym is) record { later = h.later; failed = h.failed; passed = tt }

-- two calls on the same region
pub others_after : (seens between new : List (Seen WordStep)) (p q : ℕ) → q ≡ p → between ≡ set seens p (seen_at between p) → new ≡ set between q (seen_at new q)
    → new ≡ set seens p (seen_at new p)
others_after seens between new p q same first second =
    let here : new ≡ set between p (seen_at new p) = subst (λ n. new ≡ set between n (seen_at new n)) same second in
    here ∙ ap (λ (xs : List (Seen WordStep)). set xs p (seen_at new p)) first ∙ set-set seens p (seen_at between p) (seen_at new p)

-- ---- the gate in doubt

pub closing_is : (doubt : Option Change) → is_some doubt ≡ true → set_ops 0 0 ≡ closing_ops doubt
closing_is None some = cc
closing_is (Some change) some = refl

-- ---- 64 regions of zeros

blank_next : (through number position : ℕ) (doubt : Option Change) (image : List ℕ) → image ≡ replicate 16 0 → 0 < number → IsNext through number position doubt image
blank_next through number position doubt image zeros some = next_closed through number position doubt image (ap (λ (ws : List ℕ). gate_of ws) zeros) some

blank_spent : (through position : ℕ) (image : List ℕ) → image ≡ replicate 16 0 → IsSpent through position image
blank_spent through position image zeros =
    let closed : gate_of image ≡ 0 = ap (λ (ws : List ℕ). gate_of ws) zeros in
    record { low = omega (arith, closed); placed = λ open_gate. absurd (open_gate closed) }

pub blank_stands : {seens : List (Seen WordStep)} → AreBlank seens → Standing 0 [] None seens
blank_stands {seens} b = record {
  size = b.size;
  few = omega arith;
  low = omega arith;
  room_for_doubt = λ some. omega arith;
  words = λ p l. ap (λ (ws : List ℕ). length ws) (b.zero p l (words_of (seen_at seens p)) (now_is_image (seen_at seens p).history));
  distinct = b.distinct;
  told_doubt = λ change is. cc;
  live = λ k change is. cc;
  next = λ l image possible. blank_next 0 1 0 None image (b.zero 0 (omega arith) image possible) (omega arith);
  spent = λ k above below image possible. blank_spent 0 (place 0 k) image (b.zero (place 0 k) (omega arith) image possible);
}
