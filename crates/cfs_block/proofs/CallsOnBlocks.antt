-- Calls on one block: a tag that is set and flushed, and zeros over all bytes.
use Rattle.std.proofs.Common.{ℕ, ◌≡◌, ◌∙◌, Bool, true, false, IsTrue, Result, Ok, Err, List, ◌∷◌, length, inl, inr, sym, ap, subst, arith}
use Rattle.cfs_pmem.specs.declared.trace.Asked.{Asked}
use Rattle.cfs_pmem.specs.declared.trace.Asked.TheVariants.{Step}
use Rattle.cfs_pmem.specs.Asks.{AsksSome}
use Rattle.cfs_pmem.specs.Images.{Seen, devices_of}
use Rattle.cfs_pmem.proofs.MomentLemmas.{begun, extended}
use Rattle.cfs_block.specs.BlockImages.{BlockStep, content_of, wrote, retagged, kept, unflushed, WriteFails, TagFails, AllBlockImages, IsUntagged, zeros}
use Rattle.cfs_block.specs.BlockOps.{SetsTag, Clears}
use Rattle.cfs_block.proofs.BlockLemmas.{now_is_image, all_wrote, all_torn, all_kept, all_unflushed, untagged_ranged, tagged_from_same, tagged_again, sure_kept, length-zeros}
use Rattle.cfs_block.proofs.BlockMoments.{on_half_tag, on_tag, on_flush, on_stall}

-- The tag failed, the flush failed, and both went well.

pub tag_fails : {T E : Type 0} {obeys keeps : Bool} {tag : ℕ} {result : Result T E} {asked_old asked_new : List Asked} {old new : Seen BlockStep} (e : E) → result ≡ Err e
    → length (content_of old).bytes ≡ 4096 → TagFails keeps tag old new → AsksSome (devices_of old) asked_old asked_new
    → (IsTrue obeys → asked_new ≡ Step old.device true false ∷ asked_old)
    → SetsTag obeys keeps tag result asked_old old asked_new new
tag_fails {T} {E} {obeys} {keeps} {tag} {result} {asked_old} {asked_new} {old} {new} e is full f asks asked =
    subst (λ r. SetsTag obeys keeps tag r asked_old old asked_new new) (sym is)
    record {
      ok = tt;
      sure = tt;
      err = inl f;
      does = λ o. record { all = tt; front = record { left = 1; within = omega arith; state = f; asked = asked o } };
      moments = on_half_tag tag full (begun _ _ (tagged_from_same old tag)) f.half asks (tagged_again old tag);
    }

pub tag_unflushed : {T E : Type 0} {obeys keeps : Bool} {tag : ℕ} {result : Result T E} {asked_old asked_mid asked_new : List Asked} {old mid new : Seen BlockStep} (e : E) → result ≡ Err e
    → length (content_of old).bytes ≡ 4096 → length (content_of mid).bytes ≡ 4096
    → mid ≡ retagged tag old → AsksSome (devices_of old) asked_old asked_mid → (IsTrue obeys → asked_mid ≡ Step old.device true true ∷ asked_old)
    → new ≡ unflushed mid → AsksSome (devices_of mid) asked_mid asked_new → (IsTrue obeys → asked_new ≡ Step mid.device true false ∷ asked_mid)
    → SetsTag obeys keeps tag result asked_old old asked_new new
tag_unflushed {T} {E} {obeys} {keeps} {tag} {result} {asked_old} {asked_mid} {asked_new} {old} {mid} {new} e is full full_mid w asks_mid asked_to f asks asked =
    let stands : new ≡ unflushed (retagged tag old) = f ∙ ap (λ s. unflushed s) w in
    subst (λ r. SetsTag obeys keeps tag r asked_old old asked_new new) (sym is)
    record {
      ok = tt;
      sure = tt;
      err = inr stands;
      does = λ o. record {
        all = tt;
        front = record {
          left = 0;
          within = omega arith;
          state = stands;
          asked = asked o ∙ ap (λ (s : Seen BlockStep). Step s.device true false ∷ asked_mid) w ∙ ap (λ s. Step old.device true false ∷ s) (asked_to o);
        };
      };
      moments = on_stall full_mid (on_tag tag full (begun _ _ (tagged_from_same old tag)) w asks_mid (tagged_again old tag)) f asks;
    }

pub tag_stands : {T E : Type 0} {obeys keeps : Bool} {tag : ℕ} {asked_old asked_mid asked_new : List Asked} {old mid new : Seen BlockStep} (t : T)
    → length (content_of old).bytes ≡ 4096 → length (content_of mid).bytes ≡ 4096
    → mid ≡ retagged tag old → AsksSome (devices_of old) asked_old asked_mid → (IsTrue obeys → asked_mid ≡ Step old.device true true ∷ asked_old)
    → new ≡ kept mid → AsksSome (devices_of mid) asked_mid asked_new → (IsTrue obeys → asked_new ≡ Step mid.device true true ∷ asked_mid)
    → SetsTag {T = T} {E = E} obeys keeps tag (Ok t) asked_old old asked_new new
tag_stands {T} {E} {obeys} {keeps} {tag} {asked_old} {asked_mid} {asked_new} {old} {mid} {new} t full full_mid w asks_mid asked_to k asks asked =
    let stands : new ≡ kept (retagged tag old) = k ∙ ap (λ s. kept s) w in
    record {
      ok = stands;
      sure = sure_kept mid k;
      err = tt;
      does = λ o. record {
        front = tt;
        all = record {
          state = stands;
          asked = asked o ∙ ap (λ (s : Seen BlockStep). Step s.device true true ∷ asked_mid) w ∙ ap (λ s. Step old.device true true ∷ s) (asked_to o);
        };
      };
      moments = on_flush full_mid (on_tag tag full (begun _ _ (tagged_from_same old tag)) w asks_mid (tagged_again old tag)) k asks;
    }

-- Zeros over an untagged block: at each moment it is untagged.

pub untagged_write : {old mid : Seen BlockStep} → length (content_of old).bytes ≡ 4096 → mid ≡ wrote 0 zeros old → AllBlockImages old IsUntagged → AllBlockImages mid IsUntagged
untagged_write {old} {mid} full w none =
    untagged_ranged old mid 0 (length zeros) (all_wrote old 0 zeros (omega (arith, length-zeros)) (omega arith) w) none

pub untagged_torn : {old mid : Seen BlockStep} (keeps : Bool) → length (content_of old).bytes ≡ 4096 → WriteFails keeps 0 (length zeros) old mid → AllBlockImages old IsUntagged → AllBlockImages mid IsUntagged
untagged_torn {old} {mid} keeps full f none =
    untagged_ranged old mid 0 (length zeros) (all_torn old 0 (length zeros) (omega (arith, length-zeros)) (omega arith) f.torn) none

-- The write failed, the flush failed, and both went well.

pub write_torn : {T E : Type 0} {obeys keeps : Bool} {result : Result T E} {asked_old asked_new : List Asked} {old new : Seen BlockStep} (e : E) → result ≡ Err e
    → length (content_of old).bytes ≡ 4096 → AllBlockImages old IsUntagged
    → WriteFails keeps 0 (length zeros) old new → AsksSome (devices_of old) asked_old asked_new → (IsTrue obeys → asked_new ≡ Step old.device true false ∷ asked_old)
    → Clears obeys keeps result asked_old old asked_new new
write_torn {T} {E} {obeys} {keeps} {result} {asked_old} {asked_new} {old} {new} e is full none f asks asked =
    subst (λ r. Clears obeys keeps r asked_old old asked_new new) (sym is)
    record {
      ok = tt;
      err = inl (subst (λ n. WriteFails keeps 0 n old new) length-zeros f);
      does = λ o. record { all = tt; front = record { left = 1; within = omega arith; state = f; asked = asked o } };
      moments = extended _ (begun _ _ none) f.torn.is asks (untagged_torn keeps full f none);
    }

pub zeros_unflushed : {T E : Type 0} {obeys keeps : Bool} {result : Result T E} {asked_old asked_mid asked_new : List Asked} {old mid new : Seen BlockStep} (e : E) → result ≡ Err e
    → length (content_of old).bytes ≡ 4096 → length (content_of mid).bytes ≡ 4096 → AllBlockImages old IsUntagged
    → mid ≡ wrote 0 zeros old → AsksSome (devices_of old) asked_old asked_mid → (IsTrue obeys → asked_mid ≡ Step old.device true true ∷ asked_old)
    → new ≡ unflushed mid → AsksSome (devices_of mid) asked_mid asked_new → (IsTrue obeys → asked_new ≡ Step mid.device true false ∷ asked_mid)
    → Clears obeys keeps result asked_old old asked_new new
zeros_unflushed {T} {E} {obeys} {keeps} {result} {asked_old} {asked_mid} {asked_new} {old} {mid} {new} e is full full_mid none w asks_mid asked_to f asks asked =
    let stands : new ≡ unflushed (wrote 0 zeros old) = f ∙ ap (λ s. unflushed s) w in
    let after_write : AllBlockImages mid IsUntagged = untagged_write full w none in
    let after_flush : AllBlockImages new IsUntagged = all_unflushed (λ image. IsUntagged image) mid (omega arith) f after_write in
    subst (λ r. Clears obeys keeps r asked_old old asked_new new) (sym is)
    record {
      ok = tt;
      err = inr stands;
      does = λ o. record {
        all = tt;
        front = record {
          left = 0;
          within = omega arith;
          state = stands;
          asked = asked o ∙ ap (λ (s : Seen BlockStep). Step s.device true false ∷ asked_mid) w ∙ ap (λ s. Step old.device true false ∷ s) (asked_to o);
        };
      };
      moments = extended _ (extended _ (begun _ _ none) w asks_mid after_write) f asks after_flush;
    }

pub zeros_stand : {T E : Type 0} {obeys keeps : Bool} {asked_old asked_mid asked_new : List Asked} {old mid new : Seen BlockStep} (t : T)
    → length (content_of old).bytes ≡ 4096 → length (content_of mid).bytes ≡ 4096 → AllBlockImages old IsUntagged
    → mid ≡ wrote 0 zeros old → AsksSome (devices_of old) asked_old asked_mid → (IsTrue obeys → asked_mid ≡ Step old.device true true ∷ asked_old)
    → new ≡ kept mid → AsksSome (devices_of mid) asked_mid asked_new → (IsTrue obeys → asked_new ≡ Step mid.device true true ∷ asked_mid)
    → Clears {T = T} {E = E} obeys keeps (Ok t) asked_old old asked_new new
zeros_stand {T} {E} {obeys} {keeps} {asked_old} {asked_mid} {asked_new} {old} {mid} {new} t full full_mid none w asks_mid asked_to k asks asked =
    let stands : new ≡ kept (wrote 0 zeros old) = k ∙ ap (λ s. kept s) w in
    let after_write : AllBlockImages mid IsUntagged = untagged_write full w none in
    let after_flush : AllBlockImages new IsUntagged = all_kept (λ image. IsUntagged image) mid k (after_write (content_of mid) (now_is_image mid.history (omega arith))) in
    record {
      ok = stands;
      err = tt;
      does = λ o. record {
        front = tt;
        all = record {
          state = stands;
          asked = asked o ∙ ap (λ (s : Seen BlockStep). Step s.device true true ∷ asked_mid) w ∙ ap (λ s. Step old.device true true ∷ s) (asked_to o);
        };
      };
      moments = extended _ (extended _ (begun _ _ none) w asks_mid after_write) k asks after_flush;
    }
