-- The lists of visits of the calls that an acquisition makes are plain, but for the look at an entry.
use Rattle.std.proofs.Common.{◌≡◌, ℕ, ◌+◌, ◌^◌, ◌<◌, ◌==◌, ◌||◌, ◌&&◌, ◌++◌, Bool, true, false, List, Option, None, Some, Result, Ok, Err, refl, sym, subst, arith, inl, inr}
use Rattle.xp_words.specs.KindWords.{kind_fields}
use Rattle.xp_words.specs.Machine.{Machine}
use Rattle.xp_words.specs.PageTypes.{is_table, type_number}
use Rattle.xp_words.specs.declared.entry.Demand.{Demand}
use Rattle.xp_words.specs.declared.entry.Demand.TheVariants as demands
use Rattle.xp_words.specs.declared.kind.KindWord.{KindWord}
use Rattle.xp_words.specs.declared.kind.PageType.{PageType}
use Rattle.xp_words.specs.declared.place.Place.TheVariants.{Clock}
use Rattle.xp_words.specs.declared.reply.Pause.TheVariants.{Flush, Lost}
use Rattle.xp_words.specs.declared.reply.Refusal.{Refusal}
use Rattle.xp_words.specs.declared.reply.Refusal.TheVariants as refusals
use Rattle.xp_words.specs.declared.reply.Stop.{Stop}
use Rattle.xp_words.specs.declared.reply.Stop.TheVariants.{Refused, Paused}
use Rattle.xp_board.specs.declared.step.Act.TheVariants.{Load}
use Rattle.xp_board.specs.Lists.{EachOf}
use Rattle.xp_board.specs.Readings.{is_dead}
use Rattle.xp_board.specs.Told.{Post}
use Rattle.step_maker.specs.Reasons.{OfOwner, Those, Whose}
use Rattle.step_maker.specs.Visits.{Nothing, Only, Then, Visit, Where, visit}
use Rattle.step_maker.proofs.Piecing.{each_append}
use Rattle.flush_words.specs.Flushing.{FlushedBy}
use Rattle.flush_words.specs.Flushing as flushing
use Rattle.flush_waits.specs.Listing.{LooksAt, Slow, WaitedFor, WaitsInOrder, WeighsBy}
use Rattle.flush_waits.specs.Listing as waits
use Rattle.frame_words.specs.Freeing.{FreesBy, PutBy}
use Rattle.frame_words.specs.Refs.{GetsBy, Raises, TakesFirst, UnreferredBy, had, outside as unknown, refused, stopped}
use Rattle.kind_words.specs.Kinds.{dead_kind, live_kind, partial_kind, work_kind}
use Rattle.frame_types.specs.Found.{Dies, EndsBy, SharedBy, StoresKind, TakesBy, TakesOf, TypeBy, WaitsOf, is_kept_by}
use Rattle.frame_types.specs.Plain.{is_own, waits_by}
use Rattle.frame_types.specs.Standing.{standing_of}
use Rattle.frame_types.specs.declared.standing.Standing.{Standing}
use Rattle.frame_types.specs.declared.standing.Standing.TheVariants as stands
use Rattle.frame_types.specs.declared.taking.Taken.{Taken}
use Rattle.frame_types.specs.declared.taking.Taken.TheVariants as types
use Rattle.table_words.specs.Entries.{Records}
use Rattle.table_entries.specs.Found.{EntersBy, LastBy, LeftAfter, LeftBy, ReadBy, RefusesBy, ResumesBy, TypedAgain, TypedBy, UnsettledBy, other, outside, settled}
use Rattle.table_entries.specs.declared.entries.Entered.{Entered}
use Rattle.table_entries.specs.declared.entries.Entered.TheVariants as entered
use Rattle.table_entries.specs.declared.resuming.Resumed.{Resumed}
use Rattle.table_entries.specs.declared.resuming.Resumed.TheVariants as again
use Rattle.table_entries.proofs.Listing.{each_after, each_before, first_is}
use Rattle.acquisition_laws.proofs.Lows.{taken_low}
use Rattle.acquisition_laws.proofs.Steps.{ArePlain, IsPlain, IsSmall, Plain, store_plain}

-- ---- put together
nothing_plain : ArePlain Nothing
unfolding EachOf
nothing_plain vs is small = subst (λ us. EachOf (λ s. IsPlain s) us) (sym is) tt

only_plain : {s : Visit} → IsPlain s → ArePlain (Only s)
unfolding EachOf
only_plain on vs is small = subst (λ us. EachOf (λ s. IsPlain s) us) (sym is) (on, tt)

append_plain : (before now vs : List Visit) → vs ≡ now ++ before → Plain before → Plain now → Plain vs
append_plain before now vs is p q small =
    let both = subst (λ us. EachOf (λ s. IsSmall s) us) is small in
    subst (λ us. EachOf (λ s. IsPlain s) us) (sym is) (each_append (λ s. IsPlain s) before now (p (each_before (λ s. IsSmall s) before now both)) (q (each_after (λ s. IsSmall s) before now both)))

then_plain : {P Q : List Visit → Type 0} → ArePlain P → ArePlain Q → ArePlain (Then P Q)
then_plain p q vs t = append_plain t.before t.after vs t.list (p t.before t.first) (q t.after t.next)

where_plain : (b : Bool) (P : List Visit → Type 0) → ArePlain P → ArePlain (Where b P)
where_plain true P p vs a = p vs a
where_plain false P p vs a = nothing_plain vs a

-- ---- references
raises_plain : (f x y : ℕ) → ArePlain (Raises f x y)
raises_plain f x y = then_plain (only_plain refl) (only_plain refl)

unreferred_plain : {n : Machine} {f owner : ℕ} {r : Refusal} → ArePlain (UnreferredBy n f owner r)
unreferred_plain vs (unknown far is none) = nothing_plain vs none
unreferred_plain vs (refused x inside is one) = only_plain refl vs one

pub gets_plain : {A : Type 0} (n : Machine) (f owner : ℕ) (answer : Result A Stop) → ArePlain (GetsBy n f owner answer)
gets_plain n f owner (Ok g) vs a = raises_plain f a.0 a.0 vs a.2
gets_plain n f owner (Err (Refused r)) vs a = unreferred_plain vs a
gets_plain n f owner (Err (Paused (Lost place expected found))) vs a = raises_plain f expected found vs a.3
gets_plain n f owner (Err (Paused _)) vs a = absurd a

first_plain : {A : Type 0} {n : Machine} {f owner : ℕ} {P : List Visit → Type 0} {answer : Result A Stop} → ArePlain P → ArePlain (TakesFirst n f owner P answer)
first_plain {A} {n} {f} {owner} p vs (stopped e is got) = gets_plain {A = ℕ} n f owner (Err e) vs got
first_plain {A} {n} {f} {owner} p vs (had t) = then_plain (gets_plain {A = ℕ} n f owner (Ok f)) p vs t

frees_plain : (f : ℕ) (last : Option ℕ) → ArePlain (FreesBy f last)
unfolding EachOf
frees_plain f (Some owner) vs (clock, b, y, z, is) small = subst (λ us. EachOf (λ s. IsPlain s) us) (sym is) (refl, (refl, (refl, (refl, tt))))
frees_plain f None vs is small = nothing_plain vs is small

pub put_plain : {f : ℕ} → ArePlain (PutBy f)
put_plain {f} vs a = then_plain (only_plain refl) (frees_plain f a.last) vs a.steps

records_plain : (f upto : ℕ) → ArePlain (Records f upto)
records_plain f upto vs a = only_plain refl vs a.1

-- ---- waits
weighs_plain : (n : Machine) (whose : Whose) (u : ℕ) (reaches : Bool) → ArePlain (WeighsBy n whose u reaches)
weighs_plain n (OfOwner owner) u reaches vs (inl a) = nothing_plain vs a.2
weighs_plain n (OfOwner owner) u reaches vs (inr a) = only_plain refl vs a.1.2
weighs_plain n (Those means) u reaches vs a = nothing_plain vs a.1

flushed_plain : (u : ℕ) (answer : Result (Unit {0}) Refusal) → ArePlain (FlushedBy u answer)
unfolding EachOf
flushed_plain u answer vs flushing.none small = (refl, tt)
flushed_plain u answer vs (flushing.once clock found to before some left) small = (refl, (refl, (refl, tt)))

module _ (q : Post) (whose : Whose) (stamp u : ℕ) where
  looks_plain : (vs : List Visit) (answer : Result (Option ℕ) Refusal) → LooksAt q whose stamp u vs answer → Plain vs
  looks_plain vs answer (waits.unmeant means is off none) = nothing_plain vs none
  looks_plain vs answer (waits.idle x apart some one) = only_plain refl vs one
  looks_plain vs answer (waits.late y apart more t) = then_plain (only_plain refl) (only_plain refl) vs t
  looks_plain vs answer (waits.barred y apart low t) = then_plain (only_plain refl) (then_plain (only_plain refl) (weighs_plain q.machine whose u false)) vs t
  looks_plain vs answer (waits.behind y z apart low t) = then_plain (only_plain refl) (then_plain (only_plain refl) (then_plain (weighs_plain q.machine whose u true) (only_plain refl))) vs t
  looks_plain vs answer (waits.own_late y own more one) = only_plain refl vs one
  looks_plain vs answer (waits.own_flushed y own low t) = then_plain (only_plain refl) (flushed_plain u (Ok tt)) vs t
  looks_plain vs answer (waits.own_spent y r own low t) = then_plain (only_plain refl) (flushed_plain u (Err r)) vs t

module _ (q : Post) (whose : Whose) (stamp : ℕ) where
  blocks_plain : (vs : List Visit) (n : ℕ) (answer : Result (Option Slow) Refusal) → WaitsInOrder q whose stamp vs n answer → Plain vs
  blocks_plain vs n answer (waits.none _ nothing) = nothing_plain vs nothing
  blocks_plain vs n answer (waits.more u first standing before now _ waits looks is) = append_plain before now vs is (blocks_plain before u (Ok first) waits) (looks_plain q whose stamp u now (Ok standing) looks)
  blocks_plain vs n answer (waits.spent u first r before now _ waits looks is) = append_plain before now vs is (blocks_plain before u (Ok first) waits) (looks_plain q whose stamp u now (Err r) looks)

  waited_plain : (answer : Result (Unit {0}) Stop) → ArePlain (WaitedFor q whose stamp answer)
  waited_plain (Ok done) vs a = blocks_plain vs _ (Ok None) a
  waited_plain (Err (Refused r)) vs a = blocks_plain vs a.0 (Err r) a.1
  waited_plain (Err (Paused (Flush u t x))) vs a = blocks_plain vs _ _ a.1
  waited_plain (Err (Paused _)) vs a = absurd a

waits_plain : (q : Post) (owner : ℕ) (marked : Bool) (stamp : ℕ) (t : Taken) → ArePlain (WaitsOf q owner marked stamp t)
waits_plain q owner true stamp (types.Waiting own awaited stop) vs a = waited_plain q (OfOwner owner) stamp (Err stop) vs a.1
waits_plain q owner true stamp _ vs a = waited_plain q (OfOwner owner) stamp (Ok tt) vs a
waits_plain q owner false stamp t vs a = nothing_plain vs a

-- ---- kind words
stores_plain : (f : ℕ) (k : KindWord) → k.number < 2 ^ 36 → k.progress < 2 ^ 10 → (k.kept || (is_dead k && is_table k.kind)) ≡ false → ArePlain (StoresKind f k)
stores_plain f k number progress off vs a = only_plain (store_plain f k number progress off) vs a.1

pub marked_plain : (f : ℕ) (t : PageType) (stamp : ℕ) → stamp < 2 ^ 36 → ArePlain (StoresKind f (partial_kind t false true 0 stamp))
marked_plain f t stamp small = stores_plain f (partial_kind t false true 0 stamp) small (omega arith) refl

pub shared_plain : (f : ℕ) (t : PageType) (stamp : ℕ) → stamp < 2 ^ 36 → ArePlain (SharedBy f t stamp)
shared_plain f t stamp small vs a = then_plain (marked_plain f t stamp small) put_plain vs a

-- a frame without entries is left dead
dies_plain : (f : ℕ) (t : PageType) → is_table t ≡ false → ArePlain (Dies f t true)
dies_plain f t off vs a small =
    then_plain (only_plain refl) (stores_plain f (dead_kind t true a.0) (first_is (λ s. IsSmall s) (visit Clock Load a.0) _ vs a.1 small refl) (omega arith) off) vs a.1 small

-- ---- a type is taken
ends_plain : (f : ℕ) (want : PageType) (marked own : Bool) (t : Taken) → ArePlain (EndsBy f want marked own t)
ends_plain f want marked true types.Counted vs a = stores_plain f (live_kind want 1) (omega arith) (omega arith) refl vs a
ends_plain f want marked false types.Counted vs a = stores_plain f (live_kind want 2) (omega arith) (omega arith) refl vs a
ends_plain f want marked own (types.InWork progress mine) vs a = where_plain marked (StoresKind f (work_kind want false 0)) (stores_plain f (work_kind want false 0) (omega arith) (omega arith) refl) vs a
ends_plain f want marked own (types.Waiting mine stamp stop) vs a = nothing_plain vs a

takes_plain : (q : Post) (f owner : ℕ) (want : PageType) (x : ℕ) (s : Standing) (t : Taken) → ArePlain (TakesBy q f owner want x s t)
takes_plain q f owner want x stands.Counted t vs a = only_plain refl vs a
takes_plain q f owner want x s t vs a =
    let k = kind_fields x in
    then_plain (only_plain refl)
    (then_plain (where_plain (is_kept_by k s) (PutBy f) put_plain) (then_plain (waits_plain q owner (waits_by k want s) k.number t) (ends_plain f want (waits_by k want s) (is_own k s) t))) vs a

taken_plain : {q : Post} {f owner : ℕ} {want : PageType} {t : Taken} → ArePlain (TakesOf q f owner want t)
taken_plain {q} {f} {owner} {want} {t} vs a = then_plain (only_plain refl) (takes_plain q f owner want a.word (standing_of (kind_fields a.word) want) t) vs a.steps

pub type_plain : (q : Post) (f owner : ℕ) (want : PageType) (answer : Result Taken Stop) → ArePlain (TypeBy q f owner want answer)
type_plain q f owner want (Ok t) vs a = taken_plain vs a
type_plain q f owner want (Err (Paused (Lost place expected found))) vs a = then_plain (only_plain refl) (only_plain refl) vs a.3
type_plain q f owner want (Err (Refused r)) vs a = only_plain refl vs a.2
type_plain q f owner want (Err (Paused p)) vs a = only_plain refl vs a.2

refuses_plain : (q : Post) (g owner : ℕ) (t : PageType) (e : Stop) → ArePlain (RefusesBy q g owner t e)
refuses_plain q g owner t e vs a = then_plain (type_plain q g owner t (Err e)) put_plain vs a

-- ---- the next entry, behind the look
first_off : (a b : Bool) → (a || b) ≡ false → a ≡ false
first_off true b off = off
first_off false b off = refl

left_plain : (g : ℕ) (t : PageType) (own : Bool) (stamp : ℕ) (stop : Stop) → stamp < 2 ^ 36 → ArePlain (LeftBy g t own stamp stop)
left_plain g t true stamp (Refused r) small vs a = then_plain (dies_plain g t (first_off (is_table t) (type_number t == 5) a.0)) put_plain vs a.1
left_plain g t true stamp (Paused r) small vs a = absurd a
left_plain g t false stamp stop small vs a = shared_plain g t stamp small vs a

left_after_plain : {q : Post} {g owner : ℕ} {t : PageType} {stop : Stop} → ArePlain (LeftAfter q g owner t stop)
left_after_plain {q} {g} {owner} {t} {stop} vs a = then_plain taken_plain (left_plain g t a.own a.stamp stop (taken_low a.steps.first)) vs a.steps

unsettled_plain : {q : Post} {g owner : ℕ} {t : PageType} {f i : ℕ} {stop : Stop} → ArePlain (UnsettledBy q g owner t f i stop)
unsettled_plain {q} {g} {owner} {t} {f} {i} vs a = then_plain taken_plain (then_plain (marked_plain g t a.stamp (taken_low a.steps.first)) (records_plain f (i + 1))) vs a.steps

entry_plain : (q : Post) (g owner : ℕ) (t : PageType) (f i : ℕ) (answer : Result Entered Stop) → ArePlain (TypedBy q g owner t f i answer)
entry_plain q g owner t f i (Ok entered.Recorded) vs a = then_plain taken_plain (records_plain f (i + 1)) vs a
entry_plain q g owner t f i (Ok (entered.Opened h progress own)) vs a = taken_plain vs a.1
entry_plain q g owner t f i (Ok (entered.Unsettled stop)) vs a = unsettled_plain vs a
entry_plain q g owner t f i (Err (Refused (refusals.Clock x))) vs a = left_after_plain vs a
entry_plain q g owner t f i (Err (Paused (Flush u stamp x))) vs a = left_after_plain vs a
entry_plain q g owner t f i (Err (Refused r)) vs a = refuses_plain q g owner t (Refused r) vs a
entry_plain q g owner t f i (Err (Paused p)) vs a = refuses_plain q g owner t (Paused p) vs a

read_plain : (n : Machine) (g owner f i : ℕ) (answer : Result Entered Stop) → ArePlain (ReadBy n g owner f i answer)
read_plain n g owner f i (Ok entered.Recorded) vs a = then_plain (gets_plain {A = ℕ} n g owner (Ok g)) (records_plain f (i + 1)) vs a
read_plain n g owner f i (Ok _) vs a = absurd a
read_plain n g owner f i (Err e) vs a = gets_plain {A = ℕ} n g owner (Err e) vs a

pub enters_plain : (q : Post) (f i owner : ℕ) (answer : Result Entered Stop) (word : ℕ) (d : Demand) → ArePlain (EntersBy q f i owner answer word d)
enters_plain q f i owner answer word demands.Nothing vs a = records_plain f (i + 1) vs a.1
enters_plain q f i owner answer word demands.Bad vs a = nothing_plain vs a.1
enters_plain q f i owner answer word (demands.Read g) vs a = read_plain q.machine g owner f i answer vs a
enters_plain q f i owner answer word (demands.Typed g t) vs a = first_plain (entry_plain q g owner t f i answer) vs a

-- ---- the last recorded one again, behind the look
again_plain : (q : Post) (g owner : ℕ) (t : PageType) (answer : Result Resumed Stop) → ArePlain (TypedAgain q g owner t answer)
again_plain q g owner t (Ok again.Settled) vs a = absurd a
again_plain q g owner t (Ok (again.Taken f)) vs a = taken_plain vs a.1
again_plain q g owner t (Ok (again.Opened f progress)) vs a = taken_plain vs a.1
again_plain q g owner t (Ok (again.Waiting f stamp stop)) vs a = taken_plain vs a.1
again_plain q g owner t (Err e) vs a = refuses_plain q g owner t e vs a

last_plain : {q : Post} {g : ℕ} {t : PageType} {owner : ℕ} {answer : Result Resumed Stop} → ArePlain (LastBy q g t owner answer)
last_plain vs (settled x inside live gave one) = only_plain refl vs one
last_plain {q} {g} {t} {owner} {answer} vs (outside far steps) = first_plain (again_plain q g owner t answer) vs steps
last_plain {q} {g} {t} {owner} {answer} vs (other x inside live steps) = then_plain (only_plain refl) (first_plain (again_plain q g owner t answer)) vs steps

pub resumes_plain : (q : Post) (owner : ℕ) (answer : Result Resumed Stop) (d : Demand) → ArePlain (ResumesBy q owner answer d)
resumes_plain q owner answer (demands.Typed g t) vs a = last_plain vs a
resumes_plain q owner answer _ vs a = nothing_plain vs a.1
