-- Calls on the checkpoint's regions and on the journal's, as calls on all.
use Rattle.std.proofs.Common.{ℕ, zero, suc, ◌+◌, ◌/◌, ◌%◌, ◌<◌, ◌≡◌, ◌⊎◌, ◌∙◌, List, [], ◌∷◌, ◌++◌, length, drop, map, inl, inr, get_or, refl, sym, ap, subst, arith}
use Rattle.std.proofs.Math.ListN.{set}
use Rattle.std.proofs.lemmas.List.{append-nil, length-set, map-append, map-set, set-get_or}
use Rattle.cfs_pmem.specs.declared.trace.Asked.{Asked}
use Rattle.cfs_pmem.specs.AllMoments.{AreDistinct, Leads, Passed, newest}
use Rattle.cfs_pmem.specs.Images.{Seen, WordStep, devices_of, IsImage}
use Rattle.cfs_pmem.specs.Objects.{IsBehind as IsObjectBehind, IsCallOn, IsEachImage, MomentsOf, all_devices, seen_at}
use Rattle.cfs_pmem.proofs.AllMomentLemmas.{all_weaker}
use Rattle.cfs_pmem.proofs.ObjectLemmas.{some_of}
use Rattle.cfs_dir.specs.Words.{table_in}
use Rattle.cfs_ckpt.specs.Loads.{loaded, selected, word_in}

abbrev none : Seen WordStep
none = record { device = 0; also = []; history = [] }

-- ---- what no call changes: how many regions there are, and their devices

call_length : (asked : List Asked) (old new : List (Seen WordStep)) → IsCallOn asked old new → length new ≡ length old
call_length asked old new call = ap (λ (s : List (Seen WordStep)). length s) call.is ∙ length-set old call.place call.now

same_devices : (old new : Seen WordStep) → IsObjectBehind old new → devices_of new ≡ devices_of old
same_devices old new (inl same) = ap (λ (s : Seen WordStep). devices_of s) same
same_devices old new (inr step) = ap (λ (s : Seen WordStep). devices_of s) step.1

call_devices : (asked : List Asked) (old new : List (Seen WordStep)) → IsCallOn asked old new → all_devices new ≡ all_devices old
call_devices asked old new call =
    ap (λ (s : List (Seen WordStep)). all_devices s) call.is
    ∙ map-set (λ (s : Seen WordStep). devices_of s) old call.place call.now
    ∙ ap (λ ds. set (all_devices old) call.place ds) (same_devices (seen_at old call.place) call.now call.behind)
    ∙ sym (map-set (λ (s : Seen WordStep). devices_of s) old call.place (seen_at old call.place))
    ∙ ap (λ (s : List (Seen WordStep)). all_devices s) (set-get_or old call.place none)

newest_length : (P : List (List ℕ) → Type 0) (old : List (Seen WordStep)) (passed : List (Passed (List (Seen WordStep)))) → Leads (IsEachImage IsImage) IsCallOn P old passed
    → length (newest passed old) ≡ length old
newest_length P old [] leads = refl
newest_length P old (call ∷ before) leads = call_length call.asked (newest before old) call.world leads.1 ∙ newest_length P old before leads.2

newest_devices : (P : List (List ℕ) → Type 0) (old : List (Seen WordStep)) (passed : List (Passed (List (Seen WordStep)))) → Leads (IsEachImage IsImage) IsCallOn P old passed
    → all_devices (newest passed old) ≡ all_devices old
newest_devices P old [] leads = refl
newest_devices P old (call ∷ before) leads = call_devices call.asked (newest before old) call.world leads.1 ∙ newest_devices P old before leads.2

pub length_stays : {P : List (List ℕ) → Type 0} {asked_old asked_new : List Asked} {old new : List (Seen WordStep)} → MomentsOf IsImage P asked_old old asked_new new → length new ≡ length old
length_stays {P} {asked_old} {asked_new} {old} {new} m = ap (λ (s : List (Seen WordStep)). length s) (sym m.ends) ∙ newest_length P old m.passed m.each

pub devices_stay : {P : List (List ℕ) → Type 0} {asked_old asked_new : List Asked} {old new : List (Seen WordStep)} → MomentsOf IsImage P asked_old old asked_new new → all_devices new ≡ all_devices old
devices_stay {P} {asked_old} {asked_new} {old} {new} m = ap (λ (s : List (Seen WordStep)). all_devices s) (sym m.ends) ∙ newest_devices P old m.passed m.each

-- ---- there is one image of each

pub each_length : (seens : List (Seen WordStep)) (images : List (List ℕ)) → IsEachImage IsImage seens images → length images ≡ length seens
each_length [] [] h = refl
each_length [] (image ∷ images) h = absurd h
each_length (seen ∷ rest) [] h = absurd h
each_length (seen ∷ rest) (image ∷ images) h = ap (λ n. suc n) (each_length rest images h.1)

pub record IsSized (P : List (List ℕ) → Type 0) (n : ℕ) (images : List (List ℕ)) : Type 0 where
  pub size : length images ≡ n
  pub has : P images

sized_leads : (P : List (List ℕ) → Type 0) (old : List (Seen WordStep)) (passed : List (Passed (List (Seen WordStep)))) → Leads (IsEachImage IsImage) IsCallOn P old passed
    → Leads (IsEachImage IsImage) IsCallOn (IsSized P (length old)) old passed
sized_leads P old [] leads = λ images each. record { size = each_length old images each; has = leads images each }
sized_leads P old (call ∷ before) leads = (
  λ images each. record {
    size = each_length call.world images each ∙ call_length call.asked (newest before old) call.world leads.1 ∙ newest_length P old before leads.2;
    has = leads.0 images each;
  },
  leads.1,
  sized_leads P old before leads.2,
)

pub sized : {P : List (List ℕ) → Type 0} {asked_old asked_new : List Asked} {old new : List (Seen WordStep)} → MomentsOf IsImage P asked_old old asked_new new
    → MomentsOf IsImage (IsSized P (length old)) asked_old old asked_new new
sized {P} {asked_old} {asked_new} {old} {new} m =
    record { distinct = m.distinct; passed = m.passed; ends = m.ends; asked = m.asked; each = sized_leads P old m.passed m.each }

-- ---- the first images alone are loaded

get_or-front : (mine behind : List (List ℕ)) (k : ℕ) → k < length mine → get_or (mine ++ behind) k [] ≡ get_or mine k []
get_or-front [] behind k l = absurd (omega arith)
get_or-front (image ∷ mine) behind zero l = refl
get_or-front (image ∷ mine) behind (suc k) l = get_or-front mine behind k (omega arith)

pub loaded_front : (mine behind : List (List ℕ)) → length mine ≡ 3 → loaded (mine ++ behind) ≡ loaded mine
loaded_front mine behind three =
    let word : ℕ = word_in (get_or mine 0 []) in
    ap (λ (image : List ℕ). selected (word_in image) (mine ++ behind)) (get_or-front mine behind 0 (omega (arith, three)))
    ∙ ap (λ (table : List ℕ). record { tree = table_in table; through = word / 2 }) (get_or-front mine behind (suc (word % 2)) (omega (arith, three)))

pub behind_front : (mine behind : List (List ℕ)) → length mine ≡ 3 → drop 3 (mine ++ behind) ≡ behind
behind_front (a ∷ b ∷ c ∷ []) behind three = refl
behind_front (a ∷ b ∷ c ∷ d ∷ mine) behind three = absurd (omega (arith, three))
behind_front (a ∷ b ∷ []) behind three = absurd (omega (arith, three))
behind_front (a ∷ []) behind three = absurd (omega (arith, three))
behind_front [] behind three = absurd (omega (arith, three))

-- ---- calls on some of the regions

abbrev pub apart : List (Seen WordStep) → Type 0
apart seens = AreDistinct (all_devices seens)

no_images : (images : List (List ℕ)) → IsEachImage IsImage [] images → images ≡ []
no_images [] h = refl
no_images (image ∷ images) h = absurd h

-- a call on the selector and the copies
pub on_tables : {P Q : List (List ℕ) → Type 0} {asked_old asked_new : List Asked} {old new : List (Seen WordStep)} (records : List (Seen WordStep)) → length old ≡ 3 → apart (old ++ records)
    → ((mine behind : List (List ℕ)) → length mine ≡ 3 → P mine → IsEachImage IsImage records behind → Q (mine ++ behind))
    → MomentsOf IsImage P asked_old old asked_new new → MomentsOf IsImage Q asked_old (old ++ records) asked_new (new ++ records)
on_tables {P} {Q} {asked_old} {asked_new} {old} {new} records three distinct give m =
    all_weaker (λ images h.
    let first : h.before ≡ [] = no_images h.before h.of_front in
    let whole : images ≡ h.mine ++ h.behind = h.is ∙ ap (λ front. front ++ (h.mine ++ h.behind)) first in
    subst (λ is. Q is) (sym whole) (give h.mine h.behind (h.has.size ∙ three) h.has.has h.of_back))
    (some_of [] records distinct (sized m))

-- a call on the records
pub on_records : {P Q : List (List ℕ) → Type 0} {asked_old asked_new : List Asked} {old new : List (Seen WordStep)} (tables : List (Seen WordStep)) → length tables ≡ 3 → apart (tables ++ old)
    → ((mine behind : List (List ℕ)) → length mine ≡ 3 → IsEachImage IsImage tables mine → P behind → Q (mine ++ behind))
    → MomentsOf IsImage P asked_old old asked_new new → MomentsOf IsImage Q asked_old (tables ++ old) asked_new (tables ++ new)
on_records {P} {Q} {asked_old} {asked_new} {old} {new} tables three distinct give m =
    let longer : MomentsOf IsImage Q asked_old (tables ++ (old ++ [])) asked_new (tables ++ (new ++ [])) =
    all_weaker (λ images h.
    let last : h.behind ≡ [] = no_images h.behind h.of_back in
    let whole : images ≡ h.before ++ h.mine = h.is ∙ ap (λ back. h.before ++ (h.mine ++ back)) last ∙ ap (λ own. h.before ++ own) (append-nil h.mine) in
    subst (λ is. Q is) (sym whole) (give h.before h.mine (each_length tables h.before h.of_front ∙ three) h.of_front h.has))
    (some_of tables [] (subst (λ xs. apart (tables ++ xs)) (sym (append-nil old)) distinct) m) in
    subst (λ xs. MomentsOf IsImage Q asked_old (tables ++ xs) asked_new (tables ++ new)) (append-nil old)
    (subst (λ xs. MomentsOf IsImage Q asked_old (tables ++ (old ++ [])) asked_new (tables ++ xs)) (append-nil new) longer)

-- no two share a device, before and after it

devices_both : (one other : List (Seen WordStep)) → all_devices (one ++ other) ≡ all_devices one ++ all_devices other
devices_both one other = map-append (λ (s : Seen WordStep). devices_of s) one other

pub apart_tables : {P : List (List ℕ) → Type 0} {asked_old asked_new : List Asked} {old new : List (Seen WordStep)} (records : List (Seen WordStep)) → apart (old ++ records)
    → MomentsOf IsImage P asked_old old asked_new new → apart (new ++ records)
apart_tables {old = old} {new = new} records distinct m =
    subst (λ ds. AreDistinct ds) (devices_both old records ∙ ap (λ ds. ds ++ all_devices records) (sym (devices_stay m)) ∙ sym (devices_both new records)) distinct

pub apart_records : {P : List (List ℕ) → Type 0} {asked_old asked_new : List Asked} {old new : List (Seen WordStep)} (tables : List (Seen WordStep)) → apart (tables ++ old)
    → MomentsOf IsImage P asked_old old asked_new new → apart (tables ++ new)
apart_records {old = old} {new = new} tables distinct m =
    subst (λ ds. AreDistinct ds) (devices_both tables old ∙ ap (λ ds. all_devices tables ++ ds) (sym (devices_stay m)) ∙ sym (devices_both tables new)) distinct
