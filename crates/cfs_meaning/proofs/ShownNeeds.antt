-- Which events leave a core that needs no device more.
use Rattle.std.proofs.Common.{◌≡◌, ℕ, zero, suc, ◌-◌, Bool, true, false, not, ◌&&◌, ◌||◌}
use Rattle.std.proofs.Common.{Some, None, List, [], ◌∷◌, ◌++◌, get_or, set, inl, inr}
use Rattle.std.proofs.Common.{refl, sym, ap, ◌∙◌, subst, if◌then◌else◌}
use Rattle.std.specs.Prelude.{◌==◌, nat_lt}
use Rattle.std.proofs.lemmas.Bool.{and_parts, eqb-false, eqb-true}
use Rattle.std.proofs.lemmas.List.{get_or-set_other}
use Rattle.cfs_file.specs.declared.sizes.TheConstants.{FILE_BLOCKS}
use Rattle.cfs_core.specs.declared.doubt.Doubt.{Doubt}
use Rattle.cfs_core.specs.declared.event.End.TheVariants as ends
use Rattle.cfs_core.specs.declared.event.Event.{Event}
use Rattle.cfs_core.specs.declared.event.Event.TheVariants as events
use Rattle.cfs_core.specs.declared.event.SizeEnd.TheVariants as sizes
use Rattle.cfs_core.specs.declared.flag.Flag.{Flag}
use Rattle.cfs_core.specs.declared.flag.Flag.TheVariants.{Off, Unsure}
use Rattle.cfs_core.specs.declared.inode_core.Core.{Core}
use Rattle.cfs_core.specs.declared.state.State.{State}
use Rattle.cfs_core.specs.declared.state.State.TheVariants.{Closed}
use Rattle.cfs_core.specs.declared.track.Track.{Track}
use Rattle.cfs_core.specs.After.{after, marked, query_track, retired}
use Rattle.cfs_core.specs.May.{case, is_in_phase, may, may_trim, span_now}
use Rattle.cfs_core.specs.Words.{blank, has_block, is_live, is_noop, is_off, is_out, is_unserved}
use Rattle.cfs_core.specs.Words.{is_waiting, track}
use Rattle.cfs_core.proofs.Alive.{block_lives, out_lives, waiting_lives}
use Rattle.cfs_core.proofs.Apart.{seen}
use Rattle.cfs_core.proofs.Order.{some_place, track_is}
use Rattle.cfs_meaning.specs.World.{File}
use Rattle.cfs_meaning.specs.Devices.{IsEquipped, IsFileEquipped, needs_slots}

-- What the one needs, the other did.
pub record NeedsLess (core now : Core) : Type 0 where
  pub up : core.crashed ≡ false → now.crashed ≡ false
  pub slots : (k : ℕ) → needs_slots (get_or now.tracks k blank) ≡ true →
      needs_slots (get_or core.tracks k blank) ≡ true
  pub doubt : (d : Doubt) → now.doubt ≡ Some d → core.doubt ≡ Some d
  pub blocks : (k : ℕ) → is_off (get_or now.tags k Off) ≡ false →
      is_off (get_or core.tags k Off) ≡ false

pub less-equipped : (f : File) (now : Core) → NeedsLess f.core now → IsEquipped f →
    IsEquipped (record f { core = now })
less-equipped f now less has = record {
  up = less.up has.up;
  slots = λ k is. has.slots k (less.slots k is);
  doubt = λ d is. has.doubt d (less.doubt d is);
  blocks = λ k is. has.blocks k (less.blocks k is);
}

-- how often an entry was passed over is no matter
pub passed-equipped : (f : File) (passed : ℕ → ℕ) → IsFileEquipped f →
    IsFileEquipped (record f { passed = passed })
passed-equipped f passed has up =
    let old = has up in
    record { up = old.up; slots = old.slots; doubt = old.doubt; blocks = old.blocks }

-- ---- one track

abbrev Needs : Track → Type 0
Needs t = needs_slots t ≡ true

needs-set : (core : Core) (place : ℕ) (t : Track) → (Needs t → Needs (track core.tracks place)) →
    (place ≡ 0 → ⊥) → (k : ℕ) → Needs (get_or (set core.tracks (place - 1) t) k blank) →
    Needs (get_or core.tracks k blank)
needs-set core place t give some k is = elim (seen core.tracks place t k) [
  | inl here ↦
      subst Needs (track_is core.tracks place k some here.0) (give (subst Needs here.1 is))
  | inr same ↦ subst Needs same is
]

needs-push : (tracks : List Track) (t : Track) → needs_slots t ≡ false → (k : ℕ) →
    Needs (get_or (tracks ++ t ∷ []) k blank) → Needs (get_or tracks k blank)
needs-push [] t none zero is = let wrong : false ≡ true = sym none ∙ is in absurd (cc)
needs-push [] t none (suc k) is = absurd (cc)
needs-push (u ∷ tracks) t none zero is = is
needs-push (u ∷ tracks) t none (suc k) is = needs-push tracks t none k is

-- a live request needs slots
live-needs : (t : Track) → is_live t.state ≡ true → Needs t
live-needs t live = ap (λ b. b || not (is_off t.gate)) live

-- a request that ends needs no more than it did
end-needs : (live off : Bool) → (false || off) ≡ true → (live || off) ≡ true
end-needs true off is = refl
end-needs false off is = is

less-track : (core : Core) (place : ℕ) (t : Track) (test : State → Bool) → test Closed ≡ false →
    test (track core.tracks place).state ≡ true → (Needs t → Needs (track core.tracks place)) →
    (k : ℕ) → Needs (get_or (set core.tracks (place - 1) t) k blank) →
    Needs (get_or core.tracks k blank)
less-track core place t test closed passes give =
    needs-set core place t give (some_place test closed core.tracks place passes)

-- of one that is live before
live-track : (core : Core) (place : ℕ) (t : Track) →
    is_live (track core.tracks place).state ≡ true → (k : ℕ) →
    Needs (get_or (set core.tracks (place - 1) t) k blank) → Needs (get_or core.tracks k blank)
live-track core place t live =
    less-track core place t is_live refl live (λ is. live-needs (track core.tracks place) live)

-- ---- one tag

not-off : (b : Bool) → not b ≡ true → b ≡ false
not-off true is = absurd (cc)
not-off false is = refl

pub trimmed-tag : (core : Core) (k : ℕ) → may_trim core k ≡ true →
    is_off (get_or core.tags k Off) ≡ false
trimmed-tag core k may_be =
    not-off _ (and_parts _ _ (and_parts (nat_lt k FILE_BLOCKS) _ may_be).1).0

less-tag : (core : Core) (k : ℕ) (flag : Flag) → may_trim core k ≡ true → (j : ℕ) →
    is_off (get_or (set core.tags k flag) j Off) ≡ false →
    is_off (get_or core.tags j Off) ≡ false
less-tag core k flag may_be j is = by-test (j == k) refl
  where
    by-test : (b : Bool) → (j == k) ≡ b → is_off (get_or core.tags j Off) ≡ false
    by-test true same =
        subst (λ n. is_off (get_or core.tags n Off) ≡ false) (sym (eqb-true j k same))
        (trimmed-tag core k may_be)
    by-test false apart =
        subst (λ (f : Flag). is_off f ≡ false)
        (get_or-set_other core.tags k j flag Off (eqb-false j k apart)) is

-- ---- events

-- all but those that tag a block or admit a change, and a crash and a mount
abbrev pub is_modest : Event → Bool
is_modest (events.Tag block kept) = false
is_modest (events.Admit entry grant kept) = false
is_modest (events.Crash image) = false
is_modest events.Mount = false
is_modest other = true

case-of : (core : Core) (e : Event) → may core e ≡ true → case core e ≡ true
case-of core e may_be = (and_parts (is_in_phase core.crashed e) (case core e) may_be).1

out-live : (core : Core) (place : ℕ) (well : Bool) →
    (is_out (track core.tracks place).state && well) ≡ true →
    is_live (track core.tracks place).state ≡ true
out-live core place well is =
    out_lives (track core.tracks place).state
    (and_parts (is_out (track core.tracks place).state) well is).0

block-live : (core : Core) (place k : ℕ) →
    (nat_lt k FILE_BLOCKS && has_block (track core.tracks place).state k) ≡ true →
    is_live (track core.tracks place).state ≡ true
block-live core place k is =
    block_lives (track core.tracks place).state k
    (and_parts (nat_lt k FILE_BLOCKS) (has_block (track core.tracks place).state k) is).1

pub less-after : (core : Core) (e : Event) → is_modest e ≡ true → may core e ≡ true →
    NeedsLess core (after core e)
less-after core e modest may_be = by-event e modest (case-of core e may_be)
  where
    same-blocks : (now : List Flag) → now ≡ core.tags → (k : ℕ) →
        is_off (get_or now k Off) ≡ false → is_off (get_or core.tags k Off) ≡ false
    same-blocks now same k is = subst (λ flags. is_off (get_or flags k Off) ≡ false) same is

    by-event : (e : Event) → is_modest e ≡ true → case core e ≡ true →
        NeedsLess core (after core e)
    by-event (events.Tag block kept) modest is = absurd (cc)
    by-event (events.Admit entry grant kept) modest is = absurd (cc)
    by-event (events.AdmitRead entry) modest is = record {
      up = λ up. up;
      slots = needs-push core.tracks (query_track (span_now core entry.request)) refl;
      doubt = λ d same. same;
      blocks = λ k off. off;
    }
    by-event (events.Serve place None) modest is = record {
      up = λ up. up;
      slots = less-track core place (record (track core.tracks place) { state = Closed })
          is_unserved refl is
          (end-needs (is_live (track core.tracks place).state)
          (not (is_off (track core.tracks place).gate)));
      doubt = λ d same. same;
      blocks = λ k off. off;
    }
    by-event (events.Serve place (Some bytes)) modest is = record {
      up = λ up. up;
      slots = less-track core place (record (track core.tracks place) { state = Closed })
          is_unserved refl (and_parts (is_unserved (track core.tracks place).state) _ is).0
          (end-needs (is_live (track core.tracks place).state)
          (not (is_off (track core.tracks place).gate)));
      doubt = λ d same. same;
      blocks = λ k off. off;
    }
    by-event (events.Mark place by kept) modest is = record {
      up = λ up. up;
      slots = live-track core place (marked (track core.tracks place) kept)
          (waiting_lives (track core.tracks place).state
          (and_parts (is_waiting (track core.tracks place).state) _ is).0);
      doubt = λ d same. same;
      blocks = λ k off. off;
    }
    by-event (events.Dispatch place) modest is = record {
      up = λ up. up;
      slots = live-track core place _
          (waiting_lives (track core.tracks place).state
          (and_parts (is_waiting (track core.tracks place).state) _ is).0);
      doubt = λ d same. same;
      blocks = λ k off. off;
    }
    by-event (events.BlockWrite place k None) modest is = record {
      up = λ up. up;
      slots = live-track core place _ (block-live core place k is);
      doubt = λ d same. same;
      blocks = λ k off. off;
    }
    by-event (events.BlockWrite place k (Some left)) modest is = record {
      up = λ up. up;
      slots = live-track core place _ (block-live core place k (and_parts _ _ is).0);
      doubt = λ d same. same;
      blocks = λ k off. off;
    }
    by-event (events.Flush place k true) modest is = record {
      up = λ up. up;
      slots = live-track core place _ (block-live core place k is);
      doubt = λ d same. same;
      blocks = λ k off. off;
    }
    by-event (events.Flush place k false) modest is = record {
      up = λ up. up;
      slots = λ k needs. needs;
      doubt = λ d same. same;
      blocks = λ k off. off;
    }
    by-event (events.Finish place ends.Retired) modest is = record {
      up = λ up. up;
      slots = live-track core place _ (out-live core place _ is);
      doubt = λ d same. same;
      blocks = λ k off. off;
    }
    by-event (events.Finish place ends.More) modest is = record {
      up = λ up. up;
      slots = live-track core place _ (out-live core place _ is);
      doubt = λ d same. same;
      blocks = λ k off. off;
    }
    by-event (events.Finish place (ends.Back sizes.AsBefore gate applied)) modest is = record {
      up = λ up. up;
      slots = live-track core place _ (out-live core place _ is);
      doubt = λ d same. same;
      blocks = λ k off. off;
    }
    by-event (events.Finish place (ends.Back sizes.Set gate applied)) modest is = record {
      up = λ up. up;
      slots = live-track core place _ (out-live core place _ is);
      doubt = λ d same. same;
      blocks = λ k off. off;
    }
    by-event (events.Finish place (ends.Back sizes.Either gate applied)) modest is = record {
      up = λ up. up;
      slots = live-track core place _ (out-live core place _ is);
      doubt = λ d same. same;
      blocks = λ k off. off;
    }
    by-event (events.Skip place) modest is = record {
      up = λ up. up;
      slots = less-track core place (retired (track core.tracks place)) is_noop refl is
          (λ needs. absurd (cc));
      doubt = λ d same. same;
      blocks = λ k off. off;
    }
    by-event (events.Trim k kept) modest is = record {
      up = λ up. up;
      slots = λ j needs. needs;
      doubt = λ d same. same;
      blocks = less-tag core k (if kept then Off else Unsure) is;
    }
    by-event events.Settle modest is = record {
      up = λ up. up;
      slots = λ k needs. needs;
      doubt = λ d same. absurd (cc);
      blocks = λ k off. off;
    }
    by-event (events.Crash image) modest is = absurd (cc)
    by-event events.Mount modest is = absurd (cc)
