use Rattle.std.proofs.Common.{ℕ, Ok, Err, ◌-◌, ◌%◌, ◌/◌, ◌+◌, ◌<◌, ◌≤◌, ◌≡◌, ◌∷◌, List, length, map, min, arith, rules}
use Rattle.std.proofs.lemmas.List.{length-map}
use Rattle.std.proofs.lemmas.Result.{err_from_is_err_and}
use Rattle.cfs_pmem.specs.Images.{words_of}
use Rattle.cfs_vec.specs.Items.{items_of}
use Rattle.cfs_slot.specs.declared.part.Part.{Part}
use Rattle.cfs_slot.specs.Reads.{regions_of}
use Rattle.cfs_slot.specs.Regions.{of_parts, words_in}
use Rattle.cfs_slot.specs.Words.{count_of}
use Rattle.cfs_slot.proofs.SlotReads.{Sized, all_sized, slot_within, next_within, length_same, does_one, does_two, does_none, asks_two, bytes_one, bytes_two, reads_retold}
use Rattle.cfs_slot.proofs.live.Live.read_payload.Goals as goal

pub read_slot-requires : goal.read_slot-requires
read_slot-requires g c =
    let live = c.args.self.now in
    let seen = g.R.Region.seen in
    let len : ℕ = length c.args.out.now in
    let middle : ℕ = c.min-middle.result in
    let is : middle ≡ min len (4096 - c.args.from % 4096) = c.min-middle.ensures in
    let near : List ℕ = c.split_at_mut-near.result.0.now in
    let far : List ℕ = c.split_at_mut-near.result.1.now in
    let size_near : length near ≡ middle = omega (arith, c.split_at_mut-near.ensures.front_len, c.split_at_mut-near.ensures.back_len) in
    let size_far : length far ≡ len - middle = omega (arith, c.split_at_mut-near.ensures.front_len, c.split_at_mut-near.ensures.back_len) in
    let slots : List (List ℕ) = words_in seen (regions_of live) in
    let sized : Sized slots =
    (live.size, all_sized (λ (p : Part g.row.R.Denot g.R.Region). p.region) (λ r. words_of (seen r)) (λ (p : Part g.row.R.Denot g.R.Region). p.size) (items_of live.tails)) in
    let count : ℕ = count_of (words_of (seen live.region)) in
    let within : c.args.from / 4096 < length slots = slot_within count c.args.from len slots sized c.requires.some c.requires.within in
    let slot : c.args.from / 4096 < length (regions_of live) = omega (arith, within, length-map (of_parts live.tails) (λ r. words_of (seen r))) in
    let room : c.args.from % 4096 + length near ≤ 4096 = omega arith in
    (search rules, (slot, room))

pub returns-in_err-read_slot-clause-does : goal.returns-in_err-read_slot-clause-does
returns-in_err-read_slot-clause-does g c =
    let live = c.args.self.now in
    let seen = g.R.Region.seen in
    let len : ℕ = length c.args.out.now in
    let middle : ℕ = c.min-middle.result in
    let is : middle ≡ min len (4096 - c.args.from % 4096) = c.min-middle.ensures in
    let near : List ℕ = c.split_at_mut-near.result.0.now in
    let far : List ℕ = c.split_at_mut-near.result.1.now in
    let size_near : length near ≡ middle = omega (arith, c.split_at_mut-near.ensures.front_len, c.split_at_mut-near.ensures.back_len) in
    let size_far : length far ≡ len - middle = omega (arith, c.split_at_mut-near.ensures.front_len, c.split_at_mut-near.ensures.back_len) in
    let p = err_from_is_err_and c.from_residual.result c.from_residual.ensures.1 in
    does_none c.args.from len middle c.from_residual.result p.0 p.1 is size_near c.in_err-read_slot.ensures.reads

pub read_slot-requires-then-middle-len : goal.read_slot-requires-then-middle-len
read_slot-requires-then-middle-len g c =
    let live = c.args.self.now in
    let seen = g.R.Region.seen in
    let len : ℕ = length c.args.out.now in
    let middle : ℕ = c.min-middle.result in
    let is : middle ≡ min len (4096 - c.args.from % 4096) = c.min-middle.ensures in
    let near : List ℕ = c.split_at_mut-near.result.0.now in
    let far : List ℕ = c.split_at_mut-near.result.1.now in
    let size_near : length near ≡ middle = omega (arith, c.split_at_mut-near.ensures.front_len, c.split_at_mut-near.ensures.back_len) in
    let size_far : length far ≡ len - middle = omega (arith, c.split_at_mut-near.ensures.front_len, c.split_at_mut-near.ensures.back_len) in
    let slots : List (List ℕ) = words_in seen (regions_of live) in
    let sized : Sized slots =
    (live.size, all_sized (λ (p : Part g.row.R.Denot g.R.Region). p.region) (λ r. words_of (seen r)) (λ (p : Part g.row.R.Denot g.R.Region). p.size) (items_of live.tails)) in
    let count : ℕ = count_of (words_of (seen live.region)) in
    let more : 4096 - c.args.from % 4096 < len = omega (arith, c.if-middle-len.true) in
    let within : c.args.from / 4096 + 1 < length slots = next_within count c.args.from len slots sized more c.requires.within in
    let mids = length_same seen (regions_of live) (regions_of c.read_slot.new.self) c.in_ok-read_slot.ensures.reads.same in
    let slot : c.args.from / 4096 + 1 < length (regions_of c.read_slot.new.self) = omega (arith, within, mids, length-map (of_parts live.tails) (λ r. words_of (seen r))) in
    let room : 0 + length far ≤ 4096 = omega (arith, c.requires.few) in
    (search rules, (slot, room))

pub returns-in_err-read_slot-2-clause-does : goal.returns-in_err-read_slot-2-clause-does
returns-in_err-read_slot-2-clause-does g c =
    let live = c.args.self.now in
    let seen = g.R.Region.seen in
    let len : ℕ = length c.args.out.now in
    let middle : ℕ = c.min-middle.result in
    let is : middle ≡ min len (4096 - c.args.from % 4096) = c.min-middle.ensures in
    let near : List ℕ = c.split_at_mut-near.result.0.now in
    let far : List ℕ = c.split_at_mut-near.result.1.now in
    let size_near : length near ≡ middle = omega (arith, c.split_at_mut-near.ensures.front_len, c.split_at_mut-near.ensures.back_len) in
    let size_far : length far ≡ len - middle = omega (arith, c.split_at_mut-near.ensures.front_len, c.split_at_mut-near.ensures.back_len) in
    let p = err_from_is_err_and c.from_residual-in_err-read_slot-2.result c.from_residual-in_err-read_slot-2.ensures.1 in
    λ o. reads_retold c.in_err-read_slot-2.field-0.0 p.0 p.1
    (does_two c.args.from len middle (Err c.in_err-read_slot-2.field-0.0) is size_near size_far c.in_ok-read_slot.ensures.reads c.in_err-read_slot-2.ensures.reads o)

pub returns-in_err-read_slot-2-clause-asks : goal.returns-in_err-read_slot-2-clause-asks
returns-in_err-read_slot-2-clause-asks g c =
    let live = c.args.self.now in
    let seen = g.R.Region.seen in
    let len : ℕ = length c.args.out.now in
    let middle : ℕ = c.min-middle.result in
    let is : middle ≡ min len (4096 - c.args.from % 4096) = c.min-middle.ensures in
    let near : List ℕ = c.split_at_mut-near.result.0.now in
    let far : List ℕ = c.split_at_mut-near.result.1.now in
    let size_near : length near ≡ middle = omega (arith, c.split_at_mut-near.ensures.front_len, c.split_at_mut-near.ensures.back_len) in
    let size_far : length far ≡ len - middle = omega (arith, c.split_at_mut-near.ensures.front_len, c.split_at_mut-near.ensures.back_len) in
    asks_two seen (regions_of live) (regions_of c.read_slot.new.self) c.in_ok-read_slot.ensures.reads.same c.in_ok-read_slot.ensures.reads.asks c.in_err-read_slot-2.ensures.reads.asks

pub returns-in_ok-read_slot-2-clause-bytes : goal.returns-in_ok-read_slot-2-clause-bytes
returns-in_ok-read_slot-2-clause-bytes g c =
    let live = c.args.self.now in
    let seen = g.R.Region.seen in
    let len : ℕ = length c.args.out.now in
    let middle : ℕ = c.min-middle.result in
    let is : middle ≡ min len (4096 - c.args.from % 4096) = c.min-middle.ensures in
    let near : List ℕ = c.split_at_mut-near.result.0.now in
    let far : List ℕ = c.split_at_mut-near.result.1.now in
    let size_near : length near ≡ middle = omega (arith, c.split_at_mut-near.ensures.front_len, c.split_at_mut-near.ensures.back_len) in
    let size_far : length far ≡ len - middle = omega (arith, c.split_at_mut-near.ensures.front_len, c.split_at_mut-near.ensures.back_len) in
    let slots : List (List ℕ) = words_in seen (regions_of live) in
    let sized : Sized slots =
    (live.size, all_sized (λ (p : Part g.row.R.Denot g.R.Region). p.region) (λ r. words_of (seen r)) (λ (p : Part g.row.R.Denot g.R.Region). p.size) (items_of live.tails)) in
    let count : ℕ = count_of (words_of (seen live.region)) in
    bytes_two seen near far count c.args.from len middle (regions_of live) (regions_of c.read_slot.new.self) sized c.requires.some c.requires.few is c.requires.within
    c.in_ok-read_slot.ensures.reads.same size_near size_far c.in_ok-read_slot.ensures.reads.bytes c.in_ok-read_slot-2.ensures.reads.bytes

pub returns-in_ok-read_slot-2-clause-does : goal.returns-in_ok-read_slot-2-clause-does
returns-in_ok-read_slot-2-clause-does g c =
    let live = c.args.self.now in
    let seen = g.R.Region.seen in
    let len : ℕ = length c.args.out.now in
    let middle : ℕ = c.min-middle.result in
    let is : middle ≡ min len (4096 - c.args.from % 4096) = c.min-middle.ensures in
    let near : List ℕ = c.split_at_mut-near.result.0.now in
    let far : List ℕ = c.split_at_mut-near.result.1.now in
    let size_near : length near ≡ middle = omega (arith, c.split_at_mut-near.ensures.front_len, c.split_at_mut-near.ensures.back_len) in
    let size_far : length far ≡ len - middle = omega (arith, c.split_at_mut-near.ensures.front_len, c.split_at_mut-near.ensures.back_len) in
    does_two c.args.from len middle (Ok c.in_ok-read_slot-2.field-0) is size_near size_far c.in_ok-read_slot.ensures.reads c.in_ok-read_slot-2.ensures.reads

pub returns-in_ok-read_slot-2-clause-asks : goal.returns-in_ok-read_slot-2-clause-asks
returns-in_ok-read_slot-2-clause-asks g c =
    let live = c.args.self.now in
    let seen = g.R.Region.seen in
    let len : ℕ = length c.args.out.now in
    let middle : ℕ = c.min-middle.result in
    let is : middle ≡ min len (4096 - c.args.from % 4096) = c.min-middle.ensures in
    let near : List ℕ = c.split_at_mut-near.result.0.now in
    let far : List ℕ = c.split_at_mut-near.result.1.now in
    let size_near : length near ≡ middle = omega (arith, c.split_at_mut-near.ensures.front_len, c.split_at_mut-near.ensures.back_len) in
    let size_far : length far ≡ len - middle = omega (arith, c.split_at_mut-near.ensures.front_len, c.split_at_mut-near.ensures.back_len) in
    asks_two seen (regions_of live) (regions_of c.read_slot.new.self) c.in_ok-read_slot.ensures.reads.same c.in_ok-read_slot.ensures.reads.asks c.in_ok-read_slot-2.ensures.reads.asks

pub returns-else-middle-len-clause-bytes : goal.returns-else-middle-len-clause-bytes
returns-else-middle-len-clause-bytes g c =
    let live = c.args.self.now in
    let seen = g.R.Region.seen in
    let len : ℕ = length c.args.out.now in
    let middle : ℕ = c.min-middle.result in
    let is : middle ≡ min len (4096 - c.args.from % 4096) = c.min-middle.ensures in
    let near : List ℕ = c.split_at_mut-near.result.0.now in
    let far : List ℕ = c.split_at_mut-near.result.1.now in
    let size_near : length near ≡ middle = omega (arith, c.split_at_mut-near.ensures.front_len, c.split_at_mut-near.ensures.back_len) in
    let size_far : length far ≡ len - middle = omega (arith, c.split_at_mut-near.ensures.front_len, c.split_at_mut-near.ensures.back_len) in
    let slots : List (List ℕ) = words_in seen (regions_of live) in
    let sized : Sized slots =
    (live.size, all_sized (λ (p : Part g.row.R.Denot g.R.Region). p.region) (λ r. words_of (seen r)) (λ (p : Part g.row.R.Denot g.R.Region). p.size) (items_of live.tails)) in
    let count : ℕ = count_of (words_of (seen live.region)) in
    bytes_one seen near far count c.args.from len middle (regions_of live) sized c.requires.some c.requires.few is c.requires.within
    size_near size_far c.if-middle-len.false c.in_ok-read_slot.ensures.reads.bytes

pub returns-else-middle-len-clause-does : goal.returns-else-middle-len-clause-does
returns-else-middle-len-clause-does g c =
    let live = c.args.self.now in
    let seen = g.R.Region.seen in
    let len : ℕ = length c.args.out.now in
    let middle : ℕ = c.min-middle.result in
    let is : middle ≡ min len (4096 - c.args.from % 4096) = c.min-middle.ensures in
    let near : List ℕ = c.split_at_mut-near.result.0.now in
    let far : List ℕ = c.split_at_mut-near.result.1.now in
    let size_near : length near ≡ middle = omega (arith, c.split_at_mut-near.ensures.front_len, c.split_at_mut-near.ensures.back_len) in
    let size_far : length far ≡ len - middle = omega (arith, c.split_at_mut-near.ensures.front_len, c.split_at_mut-near.ensures.back_len) in
    does_one c.args.from len middle (Ok c.in_ok-read_slot.field-0) is size_near c.if-middle-len.false c.in_ok-read_slot.ensures.reads
