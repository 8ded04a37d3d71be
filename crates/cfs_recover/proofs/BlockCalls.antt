-- One call on one of the blocks.
use Rattle.std.proofs.Common.{Bool, ℕ, zero, suc, ◌+◌, ◌-◌, ◌<◌, ◌≤◌, ◌≡◌, ◌∙◌, Result, Ok, Err}
use Rattle.std.proofs.Common.{OnOk, OnErr, List, [], ◌∷◌, ◌++◌, take, drop, length, map, get_or}
use Rattle.std.proofs.Common.{set, inl, inr, refl, sym, ap, subst, arith}
use Rattle.std.proofs.lemmas.List.{get_or-map, get_or-set_same, length-drop, length-map}
use Rattle.std.proofs.lemmas.List.{length-take-le, take_more, map-set, set-get_or, set-set}
use Rattle.cfs_file.specs.declared.request.Request.{Request}
use Rattle.cfs_pmem.specs.declared.trace.Asked.{Asked}
use Rattle.cfs_pmem.specs.AllMoments.{AreDistinct}
use Rattle.cfs_pmem.specs.Asks.{AsksSome}
use Rattle.cfs_pmem.specs.Faults.{HasCause}
use Rattle.cfs_pmem.specs.Images.{Seen, devices_of}
use Rattle.cfs_pmem.specs.Moments.{Moments}
use Rattle.cfs_pmem.specs.Objects.{IsEachImage, IsImageBut, MomentsOf, all_devices, seen_at}
use Rattle.cfs_pmem.proofs.AllMomentLemmas.{all_after, all_at_end, all_weaker}
use Rattle.cfs_pmem.proofs.MomentLemmas.{begun, extended}
use Rattle.cfs_pmem.proofs.ObjectLemmas.{map-see-set, one_of, seen_at-map}
use Rattle.cfs_block.specs.BlockImages.{AllBlockImages, BlockStep, Content, DiffersWithin}
use Rattle.cfs_block.specs.BlockImages.{IsBlockImage, IsRangedFrom, WriteFails, content_of, kept}
use Rattle.cfs_block.specs.BlockImages.{unflushed, wrote}
use Rattle.cfs_block.proofs.BlockLemmas.{all_torn, all_wrote}
use Rattle.cfs_block.proofs.BlockMoments.{on_flush, on_stall}
use Rattle.cfs_slot.specs.Payload.{HaveCause, NoneFell}
use Rattle.cfs_medium.specs.Depicts.{content_at}
use Rattle.cfs_home.specs.Calls.{IsPiece}
use Rattle.cfs_home.specs.Disks.{BlocksBeside}
use Rattle.cfs_home.proofs.Calls.{but-has, but-other, but-within, pieces-beside}
use Rattle.cfs_recover.specs.Pieces.{LeavesBeside, LiesWithin, bytes_of, with_flush, with_flushes}
use Rattle.cfs_recover.specs.Pieces.{with_write, with_writes, with_writes_through}
use Rattle.cfs_recover.specs.declared.piece.Piece.{Piece}

-- ---- lists with one block changed

pub map-same_at : {X Y : Type 0} (f : X → Y) (xs : List X) (at : ℕ) (d y : X) → at < length xs →
    f y ≡ f (get_or xs at d) → map f (set xs at y) ≡ map f xs
map-same_at f xs at d y less same =
    map-set f xs at y
    ∙ (ap (set (map f xs) at) (same ∙ sym (get_or-map f xs at d (f d) less))
    ∙ set-get_or (map f xs) at (f d))

pub devices-same_at : {X Form : Type 0} (see : X → Seen Form) (xs : List X) (at : ℕ) (d y : X) →
    at < length xs → devices_of (see y) ≡ devices_of (see (get_or xs at d)) →
    all_devices (map see (set xs at y)) ≡ all_devices (map see xs)
devices-same_at see xs at d y less same =
    ap all_devices (map-see-set see xs at y)
    ∙ map-same_at devices_of (map see xs) at (see d) (see y) (omega (arith, length-map xs see))
    (same ∙ ap devices_of (sym (get_or-map see xs at d (see d) less)))

pub none-fell : (counts : List ℕ) → NoneFell counts counts
none-fell [] = tt
none-fell (n ∷ counts) = (omega arith, none-fell counts)

-- the count of one of them tells how a call ended
cause-at : {T E : Type 0} (counts : List ℕ) (at now : ℕ) (result : Result T E) →
    at < length counts →
    HasCause (get_or counts at 0) now result → HaveCause counts (set counts at now) result
cause-at [] at now result less cause = absurd (omega arith)
cause-at (n ∷ counts) zero now (Ok t) less cause = record {
  later = (cause.later, none-fell counts);
  failed = tt;
  passed = ap (λ (m : ℕ). m ∷ counts) cause.passed;
}
cause-at (n ∷ counts) zero now (Err e) less cause = record {
  later = (cause.later, none-fell counts);
  failed = inl cause.failed;
  passed = tt;
}
cause-at (n ∷ counts) (suc at) now (Ok t) less cause =
    let behind = cause-at counts at now (Ok t) (omega arith) cause in record {
      later = (omega arith, behind.later);
      failed = tt;
      passed = ap (λ (ns : List ℕ). n ∷ ns) behind.passed;
    }
cause-at (n ∷ counts) (suc at) now (Err e) less cause =
    let behind = cause-at counts at now (Err e) (omega arith) cause in record {
      later = (omega arith, behind.later);
      failed = inr behind.failed;
      passed = tt;
    }

pub cause-of : {X T E : Type 0} (faults : X → ℕ) (xs : List X) (at : ℕ) (d y : X)
    (result : Result T E) → at < length xs →
    HasCause (faults (get_or xs at d)) (faults y) result →
    HaveCause (map faults xs) (map faults (set xs at y)) result
cause-of {X} {T} {E} faults xs at d y result less cause =
    subst (λ (ns : List ℕ). HaveCause (map faults xs) ns result) (sym (map-set faults xs at y))
    (cause-at (map faults xs) at (faults y) result (omega (arith, length-map xs faults))
    (subst (λ (n : ℕ). HasCause n (faults y) result) (sym (get_or-map faults xs at d 0 less))
    cause))

pub on-ok : {T E : Type 0} {A B : Type 0} (result : Result T E) → (A → B) → OnOk result A →
    OnOk result B
on-ok (Ok t) give a = give a
on-ok (Err e) give a = tt

-- ---- what stands behind the call

pub write-is : {X : Type 0} (see : X → Seen BlockStep) (xs : List X) (at : ℕ) (d y : X) (from : ℕ)
    (bytes : List ℕ) → at < length xs → see y ≡ wrote from bytes (see (get_or xs at d)) →
    map see (set xs at y) ≡ with_write at from bytes (map see xs)
write-is see xs at d y from bytes less is =
    map-see-set see xs at y
    ∙ ap (λ (seen : Seen BlockStep). set (map see xs) at seen)
    (is ∙ ap (wrote from bytes) (sym (seen_at-map see xs at d less)))

pub flush-is : {X : Type 0} (see : X → Seen BlockStep) (xs : List X) (at : ℕ) (d y : X) →
    at < length xs → see y ≡ kept (see (get_or xs at d)) →
    map see (set xs at y) ≡ with_flush at (map see xs)
flush-is see xs at d y less is =
    map-see-set see xs at y
    ∙ ap (λ (seen : Seen BlockStep). set (map see xs) at seen)
    (is ∙ ap kept (sym (seen_at-map see xs at d less)))

pub write-devices : {T E : Type 0} (keeps : Bool) (result : Result T E) (from : ℕ)
    (bytes : List ℕ) (old new : Seen BlockStep) → OnOk result (new ≡ wrote from bytes old) →
    OnErr result (WriteFails keeps from (length bytes) old new) → devices_of new ≡ devices_of old
write-devices keeps (Ok t) from bytes old new ok err = ap devices_of ok
write-devices keeps (Err e) from bytes old new ok err = ap devices_of err.torn.is

pub flush-devices : {T E : Type 0} (result : Result T E) (old new : Seen BlockStep) →
    OnOk result (new ≡ kept old) → OnErr result (new ≡ unflushed old) →
    devices_of new ≡ devices_of old
flush-devices (Ok t) old new ok err = ap devices_of ok
flush-devices (Err e) old new ok err = ap devices_of err

-- ---- the moments of the block itself

ranged-same : (seen : Seen BlockStep) (from len : ℕ) →
    AllBlockImages seen (IsRangedFrom seen from len)
ranged-same seen from len = λ image h. record {
  first = image;
  possible = h;
  within = record { tag = refl; size = refl; outside = λ k out. refl };
}

pub write-moments : {T E : Type 0} {asked_old asked_new : List Asked} (keeps : Bool)
    (result : Result T E) (from : ℕ) (bytes : List ℕ) (old new : Seen BlockStep) →
    length (content_of old).bytes ≡ 4096 → from + length bytes ≤ 4096 →
    OnOk result (new ≡ wrote from bytes old) →
    OnErr result (WriteFails keeps from (length bytes) old new) →
    AsksSome (devices_of old) asked_old asked_new →
    Moments IsBlockImage (IsRangedFrom old from (length bytes)) asked_old old asked_new new
write-moments {T} {E} {asked_old} keeps (Ok t) from bytes old new full fits ok err asks =
    extended _ (begun asked_old old (ranged-same old from (length bytes))) ok asks
    (all_wrote old from bytes (omega arith) (omega arith) ok)
write-moments {T} {E} {asked_old} keeps (Err e) from bytes old new full fits ok err asks =
    extended _ (begun asked_old old (ranged-same old from (length bytes))) err.torn.is asks
    (all_torn old from (length bytes) (omega arith) (omega arith) err.torn)

pub flush-moments : {T E : Type 0} {asked_old asked_new : List Asked} (result : Result T E)
    (old new : Seen BlockStep) → length (content_of old).bytes ≡ 4096 →
    OnOk result (new ≡ kept old) → OnErr result (new ≡ unflushed old) →
    AsksSome (devices_of old) asked_old asked_new →
    Moments IsBlockImage (IsBlockImage old.history) asked_old old asked_new new
flush-moments {T} {E} {asked_old} (Ok t) old new full ok err asks =
    on_flush full (begun asked_old old (λ image h. h)) ok asks
flush-moments {T} {E} {asked_old} (Err e) old new full ok err asks =
    on_stall full (begun asked_old old (λ image h. h)) err asks

-- ---- among the others

abbrev AreBeside : ℕ → Request → List Content → List (Seen BlockStep) → Type 0
AreBeside ino request first olds =
    (contents : List Content) → IsEachImage IsBlockImage olds contents →
    BlocksBeside ino request first contents

ranged-beside : (ino : ℕ) (request : Request) (first : List Content)
    (olds : List (Seen BlockStep)) (at from len : ℕ) → IsPiece ino request first at from len →
    AreBeside ino request first olds → (contents : List Content) →
    IsImageBut IsBlockImage (IsRangedFrom (seen_at olds at) from len) at olds contents →
    BlocksBeside ino request first contents
ranged-beside ino request first olds at from len piece are contents but =
    subst (BlocksBeside ino request first) back
    (pieces-beside ino request first (set contents at has.first) at from len
    (content_at contents at) piece
    (are (set contents at has.first)
    (but-other IsBlockImage (IsRangedFrom (seen_at olds at) from len) at olds contents has.first
    but has.possible))
    differs)
  where
    has : IsRangedFrom (seen_at olds at) from len (content_at contents at)
    has = but-has IsBlockImage (IsRangedFrom (seen_at olds at) from len) at olds contents
        (record { tag = 0; bytes = [] }) but

    below : at < length contents
    below = but-within IsBlockImage (IsRangedFrom (seen_at olds at) from len) at olds contents but

    back : set (set contents at has.first) at (content_at contents at) ≡ contents
    back = set-set contents at has.first (content_at contents at)
        ∙ set-get_or contents at (record { tag = 0; bytes = [] })

    differs : DiffersWithin from len (content_at (set contents at has.first) at)
        (content_at contents at)
    differs = subst (λ (c : Content). DiffersWithin from len c (content_at contents at))
        (sym (get_or-set_same contents at has.first (record { tag = 0; bytes = [] }) below))
        has.within

own-image : (olds : List (Seen BlockStep)) (at : ℕ) (contents : List Content) →
    IsImageBut IsBlockImage (IsBlockImage (seen_at olds at).history) at olds contents →
    IsEachImage IsBlockImage olds contents
own-image olds at contents but =
    subst (IsEachImage IsBlockImage olds)
    (set-get_or contents at (record { tag = 0; bytes = [] }))
    (but-other IsBlockImage (IsBlockImage (seen_at olds at).history) at olds contents
    (content_at contents at) but
    (but-has IsBlockImage (IsBlockImage (seen_at olds at).history) at olds contents
    (record { tag = 0; bytes = [] }) but))

-- a call on the block at a place, seen among all blocks
pub one-block : {X : Type 0} {P : Content → Type 0} {asked_old asked_new : List Asked}
    (see : X → Seen BlockStep) (xs : List X) (at : ℕ) (d y : X) → at < length xs →
    AreDistinct (all_devices (map see xs)) →
    Moments IsBlockImage P asked_old (see (get_or xs at d)) asked_new (see y) →
    MomentsOf IsBlockImage (IsImageBut IsBlockImage P at (map see xs)) asked_old (map see xs)
    asked_new (map see (set xs at y))
one-block {X} {P} {asked_old} {asked_new} see xs at d y less distinct moments =
    subst (λ (news : List (Seen BlockStep)).
    MomentsOf IsBlockImage (IsImageBut IsBlockImage P at (map see xs)) asked_old (map see xs)
    asked_new news) (sym (map-see-set see xs at y))
    (one_of (map see xs) at (omega (arith, length-map xs see)) distinct
    (subst (λ (old : Seen BlockStep). Moments IsBlockImage P asked_old old asked_new (see y))
    (sym (seen_at-map see xs at d less)) moments))

pub write-beside : {X : Type 0} {asked_old asked_new : List Asked} (see : X → Seen BlockStep)
    (xs : List X) (at from len : ℕ) (d y : X) → at < length xs →
    AreDistinct (all_devices (map see xs)) →
    Moments IsBlockImage (IsRangedFrom (see (get_or xs at d)) from len) asked_old
    (see (get_or xs at d)) asked_new (see y) →
    (ino : ℕ) (request : Request) (first : List Content) → IsPiece ino request first at from len →
    LeavesBeside ino request first asked_old (map see xs) asked_new (map see (set xs at y))
write-beside {X} {asked_old} {asked_new} see xs at from len d y less distinct moments ino request
    first piece are =
    all_weaker
    (λ (contents : List Content) but. ranged-beside ino request first (map see xs) at from len
    piece are contents but)
    (one-block see xs at d y less distinct
    (subst (λ (old : Seen BlockStep). Moments IsBlockImage (IsRangedFrom old from len) asked_old
    (see (get_or xs at d)) asked_new (see y)) (sym (seen_at-map see xs at d less)) moments))

pub flush-beside : {X : Type 0} {asked_old asked_new : List Asked} (see : X → Seen BlockStep)
    (xs : List X) (at : ℕ) (d y : X) → at < length xs →
    AreDistinct (all_devices (map see xs)) →
    Moments IsBlockImage (IsBlockImage (see (get_or xs at d)).history) asked_old
    (see (get_or xs at d)) asked_new (see y) →
    (ino : ℕ) (request : Request) (first : List Content) →
    LeavesBeside ino request first asked_old (map see xs) asked_new (map see (set xs at y))
flush-beside {X} {asked_old} {asked_new} see xs at d y less distinct moments ino request first are =
    all_weaker
    (λ (contents : List Content) but. are contents (own-image (map see xs) at contents but))
    (one-block see xs at d y less distinct
    (subst (λ (old : Seen BlockStep). Moments IsBlockImage (IsBlockImage old.history) asked_old
    (see (get_or xs at d)) asked_new (see y)) (sym (seen_at-map see xs at d less)) moments))

-- ---- call after call

pub leaves-after : {asked_old asked_mid asked_new : List Asked}
    {olds mids news : List (Seen BlockStep)} (ino : ℕ) (request : Request)
    (first : List Content) → LeavesBeside ino request first asked_old olds asked_mid mids →
    LeavesBeside ino request first asked_mid mids asked_new news →
    LeavesBeside ino request first asked_old olds asked_new news
leaves-after ino request first one two are =
    let before = one are in all_after before (two (all_at_end before))

pub writes-more : (pieces : List Piece) (piece : Piece) (bytes : List ℕ)
    (blocks : List (Seen BlockStep)) →
    with_writes (pieces ++ piece ∷ []) bytes blocks
    ≡ with_write piece.at piece.from (bytes_of piece bytes) (with_writes pieces bytes blocks)
writes-more [] piece bytes blocks = refl
writes-more (first ∷ pieces) piece bytes blocks =
    writes-more pieces piece bytes
    (with_write first.at first.from (bytes_of first bytes) blocks)

pub flushes-more : (pieces : List Piece) (piece : Piece) (blocks : List (Seen BlockStep)) →
    with_flushes (pieces ++ piece ∷ []) blocks ≡ with_flush piece.at (with_flushes pieces blocks)
flushes-more [] piece blocks = refl
flushes-more (first ∷ pieces) piece blocks = flushes-more pieces piece (with_flush first.at blocks)

pub through-more : (pieces : List Piece) (piece : Piece) (bytes : List ℕ)
    (blocks : List (Seen BlockStep)) →
    with_writes_through (pieces ++ piece ∷ []) bytes blocks
    ≡ with_flush piece.at (with_write piece.at piece.from (bytes_of piece bytes)
    (with_writes_through pieces bytes blocks))
through-more [] piece bytes blocks = refl
through-more (first ∷ pieces) piece bytes blocks =
    through-more pieces piece bytes
    (with_flush first.at (with_write first.at first.from (bytes_of first bytes) blocks))

-- one piece more
pub written-more : (pieces : List Piece) (i : ℕ) (d : Piece) (bytes : List ℕ)
    (begun_ mid now : List (Seen BlockStep)) → i < length pieces →
    mid ≡ with_writes (take i pieces) bytes begun_ →
    now ≡ with_write (get_or pieces i d).at (get_or pieces i d).from
    (bytes_of (get_or pieces i d) bytes) mid →
    now ≡ with_writes (take (i + 1) pieces) bytes begun_
written-more pieces i d bytes begun_ mid now less before is =
    is
    ∙ (ap (with_write (get_or pieces i d).at (get_or pieces i d).from
    (bytes_of (get_or pieces i d) bytes)) before
    ∙ (sym (writes-more (take i pieces) (get_or pieces i d) bytes begun_)
    ∙ sym (ap (λ (ps : List Piece). with_writes ps bytes begun_) (take_more pieces i d less))))

pub flushed-more : (pieces : List Piece) (i : ℕ) (d : Piece)
    (begun_ mid now : List (Seen BlockStep)) → i < length pieces →
    mid ≡ with_flushes (take i pieces) begun_ →
    now ≡ with_flush (get_or pieces i d).at mid →
    now ≡ with_flushes (take (i + 1) pieces) begun_
flushed-more pieces i d begun_ mid now less before is =
    is
    ∙ (ap (with_flush (get_or pieces i d).at) before
    ∙ (sym (flushes-more (take i pieces) (get_or pieces i d) begun_)
    ∙ sym (ap (λ (ps : List Piece). with_flushes ps begun_) (take_more pieces i d less))))

pub through-one-more : (pieces : List Piece) (i : ℕ) (d : Piece) (bytes : List ℕ)
    (begun_ mid wrote_ now : List (Seen BlockStep)) → i < length pieces →
    mid ≡ with_writes_through (take i pieces) bytes begun_ →
    wrote_ ≡ with_write (get_or pieces i d).at (get_or pieces i d).from
    (bytes_of (get_or pieces i d) bytes) mid →
    now ≡ with_flush (get_or pieces i d).at wrote_ →
    now ≡ with_writes_through (take (i + 1) pieces) bytes begun_
through-one-more pieces i d bytes begun_ mid wrote_ now less before write flush =
    flush
    ∙ (ap (with_flush (get_or pieces i d).at)
    (write ∙ ap (with_write (get_or pieces i d).at (get_or pieces i d).from
    (bytes_of (get_or pieces i d) bytes)) before)
    ∙ (sym (through-more (take i pieces) (get_or pieces i d) bytes begun_)
    ∙ sym (ap (λ (ps : List Piece). with_writes_through ps bytes begun_)
    (take_more pieces i d less))))

pub same-cause : {E : Type 0} (counts now : List ℕ) → now ≡ counts →
    HaveCause {T = Unit {0}} {E = E} counts now (Ok tt)
same-cause counts now same = record {
  later = subst (λ (ns : List ℕ). NoneFell counts ns) (sym same) (none-fell counts);
  failed = tt;
  passed = same;
}

-- a piece has as many bytes as the request brings for it
pub piece-long : (ino : ℕ) (request : Request) (first : List Content) (blocks : ℕ) (piece : Piece)
    (bytes : List ℕ) → LiesWithin blocks (length bytes) piece →
    IsPiece ino request first piece.at piece.from (piece.end - piece.start) →
    IsPiece ino request first piece.at piece.from (length (bytes_of piece bytes))
piece-long ino request first blocks piece bytes within is =
    subst (λ (n : ℕ). IsPiece ino request first piece.at piece.from n) (sym long) is
  where
    long : length (bytes_of piece bytes) ≡ piece.end - piece.start
    long = length-take-le (piece.end - piece.start) (drop piece.start bytes)
        (omega (arith, within.start, within.«end», length-drop piece.start bytes))
