-- Moments of a call on several objects: call by call, and from the moments of a call on one of them.
use Rattle.std.proofs.Common.{ℕ, suc, ◌+◌, ◌<◌, ◌≤◌, ◌≡◌, ◌∙◌, List, [], ◌∷◌, ◌++◌, length, drop, refl, sym, ap, subst, arith, append_assoc}
use Rattle.cfs_pmem.specs.declared.trace.Asked.{Asked}
use Rattle.cfs_pmem.specs.Asks.{AreStepsOn}
use Rattle.cfs_pmem.specs.Images.{Seen, devices_of, stepped}
use Rattle.cfs_pmem.specs.Moments.{Call, ticking, reading, ticks_in, asked_in, AreCallsOn, Moments}
use Rattle.cfs_pmem.specs.AllMoments.{Passed, newest, asked_by, Leads, AreDistinct, AllMoments}

pub newest-append : {World : Type 0} (later earlier : List (Passed World)) (old : World) → newest (later ++ earlier) old ≡ newest later (newest earlier old)
newest-append [] earlier old = refl
newest-append (call ∷ later) earlier old = refl

pub asked_by-append : {World : Type 0} (later earlier : List (Passed World)) → asked_by (later ++ earlier) ≡ asked_by later ++ asked_by earlier
asked_by-append [] earlier = refl
asked_by-append (call ∷ later) earlier =
    ap (λ s. call.asked ++ s) (asked_by-append later earlier) ∙ sym (append_assoc call.asked (asked_by later) (asked_by earlier))

pub leads_both : {World Image : Type 0} (IsImage : World → Image → Type 0) (IsCall : List Asked → World → World → Type 0) (P : Image → Type 0) (later earlier : List (Passed World)) (old : World)
    → Leads IsImage IsCall P (newest earlier old) later → Leads IsImage IsCall P old earlier → Leads IsImage IsCall P old (later ++ earlier)
leads_both IsImage IsCall P [] earlier old a b = b
leads_both IsImage IsCall P (call ∷ later) earlier old a b =
    (a.0, subst (λ w. IsCall call.asked w call.world) (sym (newest-append later earlier old)) a.1, leads_both IsImage IsCall P later earlier old a.2 b)

pub leads_weaker : {World Image : Type 0} (IsImage : World → Image → Type 0) (IsCall : List Asked → World → World → Type 0) (P Q : Image → Type 0) (passed : List (Passed World)) (old : World)
    → ((image : Image) → P image → Q image) → Leads IsImage IsCall P old passed → Leads IsImage IsCall Q old passed
leads_weaker IsImage IsCall P Q [] old give h = λ image i. give image (h image i)
leads_weaker IsImage IsCall P Q (call ∷ before) old give h = (λ image i. give image (h.0 image i), h.1, leads_weaker IsImage IsCall P Q before old give h.2)

leads_end : {World Image : Type 0} (IsImage : World → Image → Type 0) (IsCall : List Asked → World → World → Type 0) (P : Image → Type 0) (passed : List (Passed World)) (old : World)
    → Leads IsImage IsCall P old passed → (image : Image) → IsImage (newest passed old) image → P image
leads_end IsImage IsCall P [] old h = h
leads_end IsImage IsCall P (call ∷ before) old h = h.0

-- before the first call
pub all_begun : {World Image : Type 0} {devices : World → List (List ℕ)} {IsImage : World → Image → Type 0} {IsCall : List Asked → World → World → Type 0} {P : Image → Type 0}
    (asked : List Asked) (old : World) → AreDistinct (devices old) → ((image : Image) → IsImage old image → P image) → AllMoments devices IsImage IsCall P asked old asked old
all_begun asked old distinct all = record { distinct = distinct; passed = []; ends = refl; asked = refl; each = all }

-- a call after a call
pub all_after : {World Image : Type 0} {devices : World → List (List ℕ)} {IsImage : World → Image → Type 0} {IsCall : List Asked → World → World → Type 0} {P : Image → Type 0}
    {asked_old asked_mid asked_new : List Asked} {old mid new : World}
    → AllMoments devices IsImage IsCall P asked_old old asked_mid mid → AllMoments devices IsImage IsCall P asked_mid mid asked_new new
    → AllMoments devices IsImage IsCall P asked_old old asked_new new
all_after {World} {Image} {devices} {IsImage} {IsCall} {P} {asked_old} {asked_mid} {asked_new} {old} {mid} {new} a b = record {
  distinct = a.distinct;
  passed = b.passed ++ a.passed;
  ends = newest-append b.passed a.passed old ∙ ap (λ w. newest b.passed w) a.ends ∙ b.ends;
  asked = b.asked ∙ ap (λ s. asked_by b.passed ++ s) a.asked ∙ sym (append_assoc (asked_by b.passed) (asked_by a.passed) asked_old)
      ∙ ap (λ s. s ++ asked_old) (sym (asked_by-append b.passed a.passed));
  each = leads_both IsImage IsCall P b.passed a.passed old (subst (λ w. Leads IsImage IsCall P w b.passed) (sym a.ends) b.each) a.each;
}

-- what is weaker holds at each moment too
pub all_weaker : {World Image : Type 0} {devices : World → List (List ℕ)} {IsImage : World → Image → Type 0} {IsCall : List Asked → World → World → Type 0} {P Q : Image → Type 0}
    {asked_old asked_new : List Asked} {old new : World}
    → ((image : Image) → P image → Q image) → AllMoments devices IsImage IsCall P asked_old old asked_new new → AllMoments devices IsImage IsCall Q asked_old old asked_new new
all_weaker {World} {Image} {devices} {IsImage} {IsCall} {P} {Q} {asked_old} {asked_new} {old} {new} give m =
    record { distinct = m.distinct; passed = m.passed; ends = m.ends; asked = m.asked; each = leads_weaker IsImage IsCall P Q m.passed old give m.each }

-- the images at its end
pub all_at_end : {World Image : Type 0} {devices : World → List (List ℕ)} {IsImage : World → Image → Type 0} {IsCall : List Asked → World → World → Type 0} {P : Image → Type 0}
    {asked_old asked_new : List Asked} {old new : World}
    → AllMoments devices IsImage IsCall P asked_old old asked_new new → (image : Image) → IsImage new image → P image
all_at_end {World} {Image} {devices} {IsImage} {IsCall} {P} {asked_old} {asked_new} {old} {new} m =
    subst (λ w. (image : Image) → IsImage w image → P image) m.ends (leads_end IsImage IsCall P m.passed old m.each)

-- A world that has one object among others: `put` is the world where that object has come so far, and the others are as they were.
pub record Fits {Form Image World Whole : Type 0} (IsImage : List Form → Image → Type 0) (IsWhole : World → Whole → Type 0) (IsCall : List Asked → World → World → Type 0)
    (P : Image → Type 0) (Q : Whole → Type 0) (numbers : List ℕ) (put : Seen Form → World) : Type 0 where
  pub tick : (step : Form) (asked : List Asked) (seen : Seen Form) → devices_of seen ≡ numbers → 0 < length asked → AreStepsOn numbers asked → IsCall asked (put seen) (put (stepped step seen))
  pub look : (asked : List Asked) (seen : Seen Form) → devices_of seen ≡ numbers → 0 < length asked → AreStepsOn numbers asked → IsCall asked (put seen) (put seen)
  pub gives : (seen : Seen Form) → ((image : Image) → IsImage seen.history image → P image) → (whole : Whole) → IsWhole (put seen) whole → Q whole

-- the worlds behind an object's calls
abbrev worlds_of : {Form World : Type 0} → (Seen Form → World) → List Call → Seen Form → List (Passed World)
worlds_of put [] seen = []
worlds_of put (ticking asked ∷ before) seen =
    record { asked = asked; world = put seen } ∷ worlds_of put before record { device = seen.device; also = seen.also; history = drop 1 seen.history }
worlds_of put (reading asked ∷ before) seen = record { asked = asked; world = put seen } ∷ worlds_of put before seen

lifted : {Form Image World Whole : Type 0} {IsImage : List Form → Image → Type 0} {IsWhole : World → Whole → Type 0} {IsCall : List Asked → World → World → Type 0}
    {P : Image → Type 0} {Q : Whole → Type 0} {put : Seen Form → World} (numbers : List ℕ) → Fits IsImage IsWhole IsCall P Q numbers put
    → (old : Seen Form) (calls : List Call) (device : ℕ) (also : List ℕ) (history : List Form) → device ∷ also ≡ numbers → AreCallsOn numbers calls
    → device ≡ old.device → also ≡ old.also → length history ≡ ticks_in calls + length old.history → drop (ticks_in calls) history ≡ old.history
    → ((ago : ℕ) → ago ≤ ticks_in calls → (image : Image) → IsImage (drop ago history) image → P image)
    → (newest (worlds_of put calls record { device = device; also = also; history = history }) (put old) ≡ put record { device = device; also = also; history = history })
    × (asked_by (worlds_of put calls record { device = device; also = also; history = history }) ≡ asked_in calls)
    × Leads IsWhole IsCall Q (put old) (worlds_of put calls record { device = device; also = also; history = history })
lifted {Form} {Image} {World} {Whole} {IsImage} {IsWhole} {IsCall} {P} {Q} {put} numbers f old [] device also history same own d a clock before each =
    let seen : Seen Form = record { device = device; also = also; history = history } in
    let is : seen ≡ old =
    ap (λ n. record { device = n; also = also; history = history }) d ∙ ap (λ ns. record { device = old.device; also = ns; history = history }) a
    ∙ ap (λ (h : List Form). record { device = old.device; also = old.also; history = h }) before in
    (ap put (sym is), refl, f.gives old (λ image h. each 0 (omega arith) image (subst (λ hs. IsImage hs image) (sym before) h)))
lifted numbers f old (ticking asked ∷ calls) device also [] same own d a clock before each = absurd (omega (arith, clock))
lifted {Form} {Image} {World} {Whole} {IsImage} {IsWhole} {IsCall} {P} {Q} {put} numbers f old (ticking asked ∷ calls) device also (step ∷ rest) same own d a clock before each =
    let past : Seen Form = record { device = device; also = also; history = rest } in
    let seen : Seen Form = record { device = device; also = also; history = step ∷ rest } in
    let earlier = lifted numbers f old calls device also rest same own.2 d a (omega (arith, clock)) before (λ ago l image h. each (suc ago) (omega arith) image h) in (
      refl,
      ap (λ s. asked ++ s) earlier.1,
      (f.gives seen (λ image h. each 0 (omega arith) image h), subst (λ w. IsCall asked w (put seen)) (sym earlier.0) (f.tick step asked past same own.0 own.1), earlier.2),
    )
lifted {Form} {Image} {World} {Whole} {IsImage} {IsWhole} {IsCall} {P} {Q} {put} numbers f old (reading asked ∷ calls) device also history same own d a clock before each =
    let seen : Seen Form = record { device = device; also = also; history = history } in
    let earlier = lifted numbers f old calls device also history same own.2 d a clock before each in (
      refl,
      ap (λ s. asked ++ s) earlier.1,
      (f.gives seen (λ image h. each 0 (omega arith) image h), subst (λ w. IsCall asked w (put seen)) (sym earlier.0) (f.look asked seen same own.0 own.1), earlier.2),
    )

-- a call on one of the objects
pub among : {Form Image World Whole : Type 0} {devices : World → List (List ℕ)} {IsImage : List Form → Image → Type 0} {IsWhole : World → Whole → Type 0} {IsCall : List Asked → World → World → Type 0}
    {P : Image → Type 0} {Q : Whole → Type 0} {put : Seen Form → World} {asked_old asked_new : List Asked} {old new : Seen Form} → AreDistinct (devices (put old))
    → Fits IsImage IsWhole IsCall P Q (devices_of old) put → Moments IsImage P asked_old old asked_new new → AllMoments devices IsWhole IsCall Q asked_old (put old) asked_new (put new)
among {Form} {Image} {World} {Whole} {devices} {IsImage} {IsWhole} {IsCall} {P} {Q} {put} {asked_old} {asked_new} {old} {new} distinct f m =
    let numbers : devices_of new ≡ devices_of old = ap (λ n. n ∷ new.also) m.same ∙ ap (λ ns. old.device ∷ ns) m.same_also in
    let all = lifted (devices_of old) f old m.calls new.device new.also new.history numbers m.own m.same m.same_also m.clock m.before m.each in
    record {
      distinct = distinct;
      passed = worlds_of put m.calls new;
      ends = all.0;
      asked = m.asked ∙ ap (λ s. s ++ asked_old) (sym all.1);
      each = all.2;
    }

-- A world that has a smaller one in it: `put` is the larger one where the smaller one has come so far.
pub record Carries {World Image Larger Whole : Type 0} (IsImage : World → Image → Type 0) (IsCall : List Asked → World → World → Type 0)
    (IsWhole : Larger → Whole → Type 0) (IsLarger : List Asked → Larger → Larger → Type 0) (P : Image → Type 0) (Q : Whole → Type 0) (put : World → Larger) : Type 0 where
  pub call : (asked : List Asked) (old new : World) → IsCall asked old new → IsLarger asked (put old) (put new)
  pub gives : (world : World) → ((image : Image) → IsImage world image → P image) → (whole : Whole) → IsWhole (put world) whole → Q whole

abbrev put_all : {World Larger : Type 0} → (World → Larger) → List (Passed World) → List (Passed Larger)
put_all put [] = []
put_all put (call ∷ before) = record { asked = call.asked; world = put call.world } ∷ put_all put before

newest-put : {World Larger : Type 0} (put : World → Larger) (passed : List (Passed World)) (old : World) → newest (put_all put passed) (put old) ≡ put (newest passed old)
newest-put put [] old = refl
newest-put put (call ∷ before) old = refl

asked_by-put : {World Larger : Type 0} (put : World → Larger) (passed : List (Passed World)) → asked_by (put_all put passed) ≡ asked_by passed
asked_by-put put [] = refl
asked_by-put put (call ∷ before) = ap (λ s. call.asked ++ s) (asked_by-put put before)

leads_put : {World Image Larger Whole : Type 0} {IsImage : World → Image → Type 0} {IsCall : List Asked → World → World → Type 0}
    {IsWhole : Larger → Whole → Type 0} {IsLarger : List Asked → Larger → Larger → Type 0} {P : Image → Type 0} {Q : Whole → Type 0} {put : World → Larger}
    → Carries IsImage IsCall IsWhole IsLarger P Q put → (passed : List (Passed World)) (old : World) → Leads IsImage IsCall P old passed → Leads IsWhole IsLarger Q (put old) (put_all put passed)
leads_put c [] old h = c.gives old h
leads_put {World} {Image} {Larger} {Whole} {IsImage} {IsCall} {IsWhole} {IsLarger} {P} {Q} {put} c (call ∷ before) old h =
    (c.gives call.world h.0, subst (λ w. IsLarger call.asked w (put call.world)) (sym (newest-put put before old)) (c.call call.asked (newest before old) call.world h.1), leads_put c before old h.2)

-- a call on a part of the objects
pub all_among : {World Image Larger Whole : Type 0} {devices : World → List (List ℕ)} {numbers : Larger → List (List ℕ)} {IsImage : World → Image → Type 0} {IsCall : List Asked → World → World → Type 0}
    {IsWhole : Larger → Whole → Type 0} {IsLarger : List Asked → Larger → Larger → Type 0} {P : Image → Type 0} {Q : Whole → Type 0} {put : World → Larger}
    {asked_old asked_new : List Asked} {old new : World} → AreDistinct (numbers (put old)) → Carries IsImage IsCall IsWhole IsLarger P Q put
    → AllMoments devices IsImage IsCall P asked_old old asked_new new → AllMoments numbers IsWhole IsLarger Q asked_old (put old) asked_new (put new)
all_among {World} {Image} {Larger} {Whole} {devices} {numbers} {IsImage} {IsCall} {IsWhole} {IsLarger} {P} {Q} {put} {asked_old} {asked_new} {old} {new} distinct c m = record {
  distinct = distinct;
  passed = put_all put m.passed;
  ends = newest-put put m.passed old ∙ ap (λ w. put w) m.ends;
  asked = m.asked ∙ ap (λ s. s ++ asked_old) (sym (asked_by-put put m.passed));
  each = leads_put c m.passed old m.each;
}
