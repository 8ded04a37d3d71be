-- What a crash may load behind stores, store by store.
use Rattle.std.proofs.Common.{◌≡◌, ◌⊎◌, ◌∙◌, Bool, true, false, List, [], ◌∷◌, inl, inr, refl, sym, subst}
use Rattle.cfs_pmem.specs.Images.{Seen, WordStep}
use Rattle.cfs_pmem.proofs.AllMomentLemmas.{all_at_end, all_weaker}
use Rattle.cfs_ckpt.specs.Loads.{CanLoad, Loaded, LoadsOnly, loaded}
use Rattle.cfs_ckpt.specs.History.{CrashesInAStore, CrashesLoadStores, seens_behind}

either : (answer : Bool) → (answer ≡ true) ⊎ (answer ≡ false)
either true = inl refl
either false = inr refl

only : {seens : List (Seen WordStep)} {x y : Loaded} → LoadsOnly seens y → CanLoad seens x → x ≡ y
only all h = sym h.loads ∙ all h.images h.possible

pub crashes_load_stores : CrashesLoadStores
crashes_load_stores made asked seens [] x all told h = only all h
crashes_load_stores made asked seens (store ∷ before) x all told h = elim (either store.well) [
  | inl well ↦ inl (only (told.1 well) h)
  | inr failed ↦ elim (all_at_end told.0 h.images h.possible) [
    | inl was ↦ inr (failed, crashes_load_stores made asked seens before x all told.2 (subst (λ y. CanLoad (seens_behind before seens) y) h.loads was))
    | inr this ↦ inl (sym h.loads ∙ this)
  ]
]

pub crashes_in_a_store : CrashesInAStore
crashes_in_a_store made asked seens stores what asked_new new all told m = all_weaker (λ images h. elim h [
  | inl was ↦ inl (crashes_load_stores made asked seens stores (loaded images) all told was)
  | inr this ↦ inr this
]) m
