-- The gates of a chain at each moment.
use Rattle.std.proofs.Common.{ℕ, suc, ◌≡◌, ◌∙◌, Bool, true, List, [], ◌∷◌, map, sym, ap, subst, arith}
use Rattle.std.proofs.lemmas.Simd.{map-map}
use Rattle.cfs_file.specs.declared.request.Request.{Request}
use Rattle.cfs_pmem.specs.declared.trace.Asked.{Asked}
use Rattle.cfs_pmem.specs.AllMoments.{AreDistinct}
use Rattle.cfs_pmem.specs.Images.{Seen, WordStep, devices_of, AllImages, IsImage}
use Rattle.cfs_pmem.specs.Moments.{Moments}
use Rattle.cfs_pmem.specs.Objects.{all_devices, IsCallOn, IsEachImage, IsImageBut, MomentsOf}
use Rattle.cfs_pmem.proofs.AllMomentLemmas.{Carries, all_among, all_after, all_begun, all_weaker}
use Rattle.cfs_pmem.proofs.MomentLemmas.{at_end}
use Rattle.cfs_pmem.proofs.ObjectLemmas.{one_of}
use Rattle.cfs_slot.specs.Words.{IsClosed}
use Rattle.cfs_long.specs.Chain.{AreClosed, StagesTails, all_staged, one_staged, one_refused, StagesChain, short_staged, short_refused, tail_refused, head_refused, long_staged}
use Rattle.cfs_long.proofs.ChainLemmas.{tails_same}

-- the gate of each is closed in every image
abbrev pub AllClosed : {R : Type 0} → (R → Seen WordStep) → List R → Type 0
AllClosed seen [] = Unit {0}
AllClosed seen (region ∷ rest) = AllImages (seen region) IsClosed × AllClosed seen rest

closed_each : {R : Type 0} (seen : R → Seen WordStep) (regions : List R) → AllClosed seen regions → (images : List (List ℕ)) → IsEachImage IsImage (map (λ r. seen r) regions) images → AreClosed images
closed_each seen [] all [] h = tt
closed_each seen [] all (image ∷ images) h = absurd h
closed_each seen (region ∷ rest) all [] h = absurd h
closed_each seen (region ∷ rest) all (image ∷ images) h = (all.0 image h.0, closed_each seen rest all.1 images h.1)

closed_first : {R : Type 0} (seen : R → Seen WordStep) (old : Seen WordStep) (rest : List R) → AllClosed seen rest → (images : List (List ℕ))
    → IsImageBut IsImage IsClosed 0 (old ∷ map (λ r. seen r) rest) images → AreClosed images
closed_first seen old rest all [] h = absurd h
closed_first seen old rest all (image ∷ images) h = (h.0, closed_each seen rest all images h.1)

-- a call on the first slot
first_moves : {R : Type 0} (seen : R → Seen WordStep) {asked last : List Asked} (old new : R) (rest : List R) → AllClosed seen rest → AreDistinct (all_devices (map (λ r. seen r) (old ∷ rest)))
    → Moments IsImage IsClosed asked (seen old) last (seen new) → MomentsOf IsImage AreClosed asked (map (λ r. seen r) (old ∷ rest)) last (map (λ r. seen r) (new ∷ rest))
first_moves seen old new rest all distinct m =
    all_weaker (λ images h. closed_first seen (seen old) rest all images h) (one_of (map (λ r. seen r) (old ∷ rest)) 0 (omega arith) distinct m)

-- a call on the others
others_move : {R : Type 0} (seen : R → Seen WordStep) {asked last : List Asked} (first : R) (olds news : List R) → AllImages (seen first) IsClosed → AreDistinct (all_devices (map (λ r. seen r) (first ∷ olds)))
    → MomentsOf IsImage AreClosed asked (map (λ r. seen r) olds) last (map (λ r. seen r) news) → MomentsOf IsImage AreClosed asked (map (λ r. seen r) (first ∷ olds)) last (map (λ r. seen r) (first ∷ news))
others_move seen first olds news closed distinct m =
    let carries : Carries (IsEachImage IsImage) IsCallOn (IsEachImage IsImage) IsCallOn AreClosed AreClosed (λ (mine : List (Seen WordStep)). seen first ∷ mine) = record {
      call = λ asked was now h. record {
        place = suc h.place;
        within = omega (arith, h.within);
        now = h.now;
        is = ap (λ s. seen first ∷ s) h.is;
        behind = h.behind;
        some = h.some;
        own = h.own;
      };
      gives = λ world all whole h. closed_more world all whole h;
    } in
    all_among {put = λ (mine : List (Seen WordStep)). seen first ∷ mine} distinct carries m
  where
    closed_more : (world : List (Seen WordStep)) → ((images : List (List ℕ)) → IsEachImage IsImage world images → AreClosed images) → (images : List (List ℕ)) → IsEachImage IsImage (seen first ∷ world) images → AreClosed images
    closed_more world all [] h = absurd h
    closed_more world all (image ∷ images) h = (closed image h.0, all images h.1)

-- the devices of a slot that was written
moved : {R : Type 0} (seen : R → Seen WordStep) {asked last : List Asked} (old new : R) (rest : List R) → Moments IsImage IsClosed asked (seen old) last (seen new)
    → AreDistinct (all_devices (map (λ r. seen r) (old ∷ rest))) → AreDistinct (all_devices (map (λ r. seen r) (new ∷ rest)))
moved seen old new rest m distinct =
    let same : devices_of (seen new) ≡ devices_of (seen old) = ap (λ n. n ∷ (seen new).also) m.same ∙ ap (λ ns. (seen old).device ∷ ns) m.same_also in
    subst (λ ns. AreDistinct (ns ∷ all_devices (map (λ r. seen r) rest))) (sym same) distinct

tails_moments : {R : Type 0} {seen : R → Seen WordStep} {faults : R → ℕ} {obeys : Bool} {ino grant : ℕ} {bytes : List ℕ} {whole : Bool} {asked last : List Asked} {olds news : List R}
    → AllClosed seen olds → AreDistinct (all_devices (map (λ r. seen r) olds)) → StagesTails seen faults obeys ino grant bytes whole asked olds last news
    → MomentsOf IsImage AreClosed asked (map (λ r. seen r) olds) last (map (λ r. seen r) news)
tails_moments {R} {seen} {faults} {obeys} {ino} {grant} {bytes} {whole} {asked} closed distinct all_staged = all_begun asked [] tt (λ images h. closed_each seen [] tt images h)
tails_moments {seen = seen} {faults = faults} {olds = old ∷ olds} {news = new ∷ news} closed distinct (one_staged some writes part rest) =
    let m = writes.writes.moments in
    all_after (first_moves seen old new olds closed.1 distinct m)
    (others_move seen new olds news (at_end m) (moved seen old new olds m distinct) (tails_moments closed.1 distinct.1 rest))
tails_moments {seen = seen} {faults = faults} {olds = old ∷ olds} {news = new ∷ same} closed distinct (one_refused some writes) =
    first_moves seen old new olds closed.1 distinct writes.writes.moments

tails_closed : {R : Type 0} {seen : R → Seen WordStep} {faults : R → ℕ} {obeys : Bool} {ino grant : ℕ} {bytes : List ℕ} {asked last : List Asked} {olds news : List R}
    → StagesTails seen faults obeys ino grant bytes true asked olds last news → AllClosed seen news
tails_closed all_staged = tt
tails_closed (one_staged some writes part rest) = (at_end writes.writes.moments, tails_closed rest)

-- the tails, and then the head
both_move : {R : Type 0} {seen : R → Seen WordStep} {faults : R → ℕ} {obeys : Bool} {ino grant : ℕ} {bytes : List ℕ} {asked mid last : List Asked} {old new : R} {olds news : List R}
    → AllClosed seen (old ∷ olds) → AreDistinct (all_devices (map (λ r. seen r) (old ∷ olds))) → StagesTails seen faults obeys ino grant bytes true asked olds mid news
    → Moments IsImage IsClosed mid (seen old) last (seen new) → MomentsOf IsImage AreClosed asked (map (λ r. seen r) (old ∷ olds)) last (map (λ r. seen r) (new ∷ news))
both_move {R} {seen} {faults} {obeys} {ino} {grant} {bytes} {asked} {mid} {last} {old} {new} {olds} {news} closed distinct tails m =
    let same : all_devices (map (λ r. seen r) news) ≡ all_devices (map (λ r. seen r) olds) =
    map-map devices_of (λ r. seen r) news ∙ tails_same (λ d also. d ∷ also) tails ∙ sym (map-map devices_of (λ r. seen r) olds) in
    all_after (others_move seen old olds news closed.0 distinct (tails_moments closed.1 distinct.1 tails))
    (first_moves seen old new news (tails_closed tails) (subst (λ ns. AreDistinct (devices_of (seen old) ∷ ns)) (sym same) distinct) m)

pub chain_moments : {R : Type 0} {seen : R → Seen WordStep} {faults : R → ℕ} {obeys : Bool} {ino grant : ℕ} {request : Request} {numbers : List ℕ} {whole : Bool} {asked last : List Asked} {olds news : List R}
    → AllClosed seen olds → AreDistinct (all_devices (map (λ r. seen r) olds)) → StagesChain seen faults obeys ino grant request numbers whole asked olds last news
    → MomentsOf IsImage AreClosed asked (map (λ r. seen r) olds) last (map (λ r. seen r) news)
chain_moments {seen = seen} {faults = faults} {olds = old ∷ none} {news = new ∷ same} closed distinct (short_staged short writes) =
    first_moves seen old new [] tt distinct writes.writes.moments
chain_moments {seen = seen} {faults = faults} {olds = old ∷ none} {news = new ∷ same} closed distinct (short_refused short writes) =
    first_moves seen old new [] tt distinct writes.writes.moments
chain_moments {seen = seen} {faults = faults} {olds = head ∷ olds} {news = same ∷ news} closed distinct (tail_refused long tails) =
    others_move seen head olds news closed.0 distinct (tails_moments closed.1 distinct.1 tails)
chain_moments closed distinct (head_refused long tails writes) = both_move closed distinct tails writes.writes.moments
chain_moments closed distinct (long_staged long tails writes) = both_move closed distinct tails writes.writes.moments
