-- A call on one of a list of objects.
use Rattle.std.proofs.Common.{ℕ, zero, suc, ◌+◌, ◌<◌, ◌≡◌, ◌∙◌, List, [], ◌∷◌, ◌++◌, length, map, get_or, inl, inr, refl, sym, ap, subst, arith, get_or-set_same}
use Rattle.std.proofs.Math.ListN.{set}
use Rattle.std.proofs.lemmas.List.{length-set, length-map, length-append, map-set, get_or-map, get_or-append-add, get_or_append_left, set-set, set-get_or, set-append_left}
use Rattle.std.proofs.lemmas.List.{set-append_right}
use Rattle.cfs_pmem.specs.declared.trace.Asked.{Asked}
use Rattle.cfs_pmem.specs.Asks.{AreStepsOn}
use Rattle.cfs_pmem.specs.Images.{Seen, devices_of, stepped}
use Rattle.cfs_pmem.specs.Moments.{Moments}
use Rattle.cfs_pmem.specs.AllMoments.{AreDistinct}
use Rattle.cfs_pmem.specs.Objects.{seen_at, all_devices, IsBehind, IsCallOn, IsEachImage, IsImageBut, IsImageAmong, MomentsOf}
use Rattle.cfs_pmem.proofs.AllMomentLemmas.{Fits, Carries, among, all_among}

-- what has P in each image of the object at a place has it there among the others
pub each_but : {Form Image : Type 0} (IsImage : List Form → Image → Type 0) (P : Image → Type 0) (place : ℕ) (olds : List (Seen Form)) (seen : Seen Form) (images : List Image)
    → place < length olds → ((image : Image) → IsImage seen.history image → P image) → IsEachImage IsImage (set olds place seen) images → IsImageBut IsImage P place olds images
each_but IsImage P place [] seen images l all h = absurd (omega arith)
each_but IsImage P zero (old ∷ rest) seen [] l all h = absurd h
each_but IsImage P zero (old ∷ rest) seen (image ∷ images) l all h = (all image h.0, h.1)
each_but IsImage P (suc place) (old ∷ rest) seen [] l all h = absurd h
each_but IsImage P (suc place) (old ∷ rest) seen (image ∷ images) l all h = (h.0, each_but IsImage P place rest seen images (omega arith) all h.1)

pub called_on : {Form : Type 0} (olds : List (Seen Form)) (place : ℕ) → place < length olds → (asked : List Asked) (seen now : Seen Form) → IsBehind seen now
    → 0 < length asked → AreStepsOn (devices_of seen) asked → IsCallOn asked (set olds place seen) (set olds place now)
called_on {Form} olds place l asked seen now behind some own =
    let here : seen_at (set olds place seen) place ≡ seen = get_or-set_same olds place seen record { device = 0; also = []; history = [] } l in
    record {
      place = place;
      within = omega (arith, length-set olds place seen);
      now = now;
      is = sym (set-set olds place seen now);
      behind = subst (λ s. IsBehind s now) (sym here) behind;
      some = some;
      own = subst (λ s. AreStepsOn (devices_of s) asked) (sym here) own;
    }

pub one_of : {Form Image : Type 0} {IsImage : List Form → Image → Type 0} {P : Image → Type 0} (olds : List (Seen Form)) (place : ℕ) {asked_old asked_new : List Asked} {new : Seen Form}
    → place < length olds → AreDistinct (all_devices olds) → Moments IsImage P asked_old (seen_at olds place) asked_new new
    → MomentsOf IsImage (IsImageBut IsImage P place olds) asked_old olds asked_new (set olds place new)
one_of {Form} {Image} {IsImage} {P} olds place {asked_old} {asked_new} {new} l distinct m =
    let same : set olds place (seen_at olds place) ≡ olds = set-get_or olds place record { device = 0; also = []; history = [] } in
    let fits : Fits IsImage (IsEachImage IsImage) IsCallOn P (IsImageBut IsImage P place olds) (devices_of (seen_at olds place)) (λ seen. set olds place seen) = record {
      tick = λ step asked seen d some own. called_on olds place l asked seen (stepped step seen) (inr (step, refl)) some (subst (λ ns. AreStepsOn ns asked) (sym d) own);
      look = λ asked seen d some own. called_on olds place l asked seen seen (inl refl) some (subst (λ ns. AreStepsOn ns asked) (sym d) own);
      gives = λ seen all images h. each_but IsImage P place olds seen images l all h;
    } in
    subst (λ world. MomentsOf IsImage (IsImageBut IsImage P place olds) asked_old world asked_new (set olds place new)) same
    (among {put = λ seen. set olds place seen} (subst (λ world. AreDistinct (all_devices world)) (sym same) distinct) fits m)

-- what is seen of one of them, before and after it is replaced

pub seen_at-map : {X Form : Type 0} (see : X → Seen Form) (xs : List X) (place : ℕ) (x : X) → place < length xs → seen_at (map see xs) place ≡ see (get_or xs place x)
seen_at-map see xs place x l = get_or-map see xs place x record { device = 0; also = []; history = [] } l

pub map-see-set : {X Form : Type 0} (see : X → Seen Form) (xs : List X) (place : ℕ) (y : X) → map see (set xs place y) ≡ set (map see xs) place (see y)
map-see-set see xs place y = map-set see xs place y

pub seen_at-set : {X Form : Type 0} (see : X → Seen Form) (xs : List X) (place : ℕ) (y : X) → place < length xs → seen_at (map see (set xs place y)) place ≡ see y
seen_at-set see xs place y l =
    ap (λ seens. seen_at seens place) (map-set see xs place y)
    ∙ get_or-set_same (map see xs) place (see y) record { device = 0; also = []; history = [] } (omega (arith, length-map xs see))

-- A call on some of the objects, which stand between others in a longer list.

split : {Form Image : Type 0} (IsImage : List Form → Image → Type 0) (mine back : List (Seen Form)) (images : List Image) → IsEachImage IsImage (mine ++ back) images
    → (own : List Image) × (rest : List Image) × (images ≡ own ++ rest) × IsEachImage IsImage mine own × IsEachImage IsImage back rest
split IsImage [] back images h = ([], images, refl, tt, h)
split IsImage (seen ∷ mine) back [] h = absurd h
split IsImage (seen ∷ mine) back (image ∷ images) h =
    let rest = split IsImage mine back images h.1 in (image ∷ rest.0, rest.1, ap (λ is. image ∷ is) rest.2, (h.0, rest.3), rest.4)

between : {Form Image : Type 0} (IsImage : List Form → Image → Type 0) (P : List Image → Type 0) (front mine back : List (Seen Form)) (images : List Image)
    → ((own : List Image) → IsEachImage IsImage mine own → P own) → IsEachImage IsImage (front ++ (mine ++ back)) images → IsImageAmong IsImage P front back images
between IsImage P [] mine back images all h = let parts = split IsImage mine back images h in record {
  before = [];
  mine = parts.0;
  behind = parts.1;
  is = parts.2;
  of_front = tt;
  has = all parts.0 parts.3;
  of_back = parts.4;
}
between IsImage P (seen ∷ front) mine back [] all h = absurd h
between IsImage P (seen ∷ front) mine back (image ∷ images) all h =
    let rest = between IsImage P front mine back images all h.1 in
    record {
      before = image ∷ rest.before;
      mine = rest.mine;
      behind = rest.behind;
      is = ap (λ is. image ∷ is) rest.is;
      of_front = (h.0, rest.of_front);
      has = rest.has;
      of_back = rest.of_back;
    }

set-between : {Form : Type 0} (front mine back : List (Seen Form)) (place : ℕ) (now : Seen Form) → place < length mine
    → front ++ (set mine place now ++ back) ≡ set (front ++ (mine ++ back)) (length front + place) now
set-between front mine back place now l =
    sym (set-append_right front (mine ++ back) (length front) (length front + place) now refl (omega arith)
    ∙ ap (λ k. front ++ set (mine ++ back) k now) (omega arith)
    ∙ ap (λ seens. front ++ seens) (set-append_left mine back place now l))

seen-between : {Form : Type 0} (front mine back : List (Seen Form)) (place : ℕ) → place < length mine
    → seen_at (front ++ (mine ++ back)) (length front + place) ≡ seen_at mine place
seen-between front mine back place l =
    get_or-append-add front (mine ++ back) place record { device = 0; also = []; history = [] }
    ∙ get_or_append_left mine back record { device = 0; also = []; history = [] } place l

call_between : {Form : Type 0} (front back : List (Seen Form)) (asked : List Asked) (old new : List (Seen Form)) → IsCallOn asked old new
    → IsCallOn asked (front ++ (old ++ back)) (front ++ (new ++ back))
call_between front back asked old new call =
    let same = seen-between front old back call.place call.within in
    record {
      place = length front + call.place;
      within = omega (arith, length-append front (old ++ back), length-append old back, call.within);
      now = call.now;
      is = ap (λ seens. front ++ (seens ++ back)) call.is ∙ set-between front old back call.place call.now call.within;
      behind = subst (λ s. IsBehind s call.now) (sym same) call.behind;
      some = call.some;
      own = subst (λ s. AreStepsOn (devices_of s) asked) (sym same) call.own;
    }

pub some_of : {Form Image : Type 0} {IsImage : List Form → Image → Type 0} {P : List Image → Type 0} (front back : List (Seen Form)) {asked_old asked_new : List Asked} {old new : List (Seen Form)}
    → AreDistinct (all_devices (front ++ (old ++ back))) → MomentsOf IsImage P asked_old old asked_new new
    → MomentsOf IsImage (IsImageAmong IsImage P front back) asked_old (front ++ (old ++ back)) asked_new (front ++ (new ++ back))
some_of {Form} {Image} {IsImage} {P} front back {asked_old} {asked_new} {old} {new} distinct m =
    let carries : Carries (IsEachImage IsImage) IsCallOn (IsEachImage IsImage) IsCallOn P (IsImageAmong IsImage P front back) (λ mine. front ++ (mine ++ back)) = record {
      call = λ asked was now h. call_between front back asked was now h;
      gives = λ world all whole h. between IsImage P front world back whole all h;
    } in
    all_among {put = λ mine. front ++ (mine ++ back)} distinct carries m
