-- What the calls of an acquisition leave as it is.
use Rattle.std.proofs.Common.{◌≡◌, ℕ, ◌/◌, ◌==◌, ◌&&◌, nat_lt, if◌then◌else◌, Bool, true, false, Option, Some, None, Result, Ok, Err, refl, ◌∙◌}
use Rattle.xp_words.specs.KindWords.{kind_write}
use Rattle.xp_words.specs.Machine.{Machine}
use Rattle.xp_words.specs.RefWords.{ref_write}
use Rattle.xp_words.specs.declared.entry.Demand.{Demand}
use Rattle.xp_words.specs.declared.entry.Demand.TheVariants as demands
use Rattle.xp_words.specs.declared.kind.KindWord.{KindWord}
use Rattle.xp_words.specs.declared.kind.PageType.{PageType}
use Rattle.xp_words.specs.declared.place.Place.{Place}
use Rattle.xp_words.specs.declared.place.Place.TheVariants.{Cell, Kind, Life, M2p, Map, Pages, Priv, Refs, Vcpu}
use Rattle.xp_words.specs.declared.refs.RefWord.TheVariants.{Free}
use Rattle.xp_words.specs.declared.reply.Pause.TheVariants as pauses
use Rattle.xp_words.specs.declared.reply.Refusal.{Refusal}
use Rattle.xp_words.specs.declared.reply.Refusal.TheVariants as refusals
use Rattle.xp_words.specs.declared.reply.Stop.{Stop}
use Rattle.xp_words.specs.declared.reply.Stop.TheVariants.{Refused, Paused}
use Rattle.xp_board.specs.HintSteps.{map_bit}
use Rattle.xp_board.specs.RefSteps.{one_down, owner_number}
use Rattle.xp_board.specs.Readings.{is_live_word, owner_of, ref_count}
use Rattle.xp_board.specs.Told.{PortValue, told_word}
use Rattle.xp_board.specs.declared.step.Act.{Act}
use Rattle.xp_board.specs.declared.step.Act.TheVariants.{Add, Store}
use Rattle.step_maker.specs.Plain.{Leaves, Words, change}
use Rattle.step_maker.specs.Twins.{Alike}
use Rattle.frame_words.specs.Plain.{got, lowered, put, refer, set_free, stamp_now}
use Rattle.frame_types.specs.Plain.{less_kept, set_kind, taken, taken_by}
use Rattle.frame_types.specs.Standing.{standing_of}
use Rattle.frame_types.specs.declared.standing.Standing.{Standing}
use Rattle.frame_types.specs.declared.standing.Standing.TheVariants as stands
use Rattle.frame_types.specs.declared.taking.Taken.{Taken}
use Rattle.frame_types.specs.declared.taking.Taken.TheVariants as types
use Rattle.kind_words.specs.Kinds.{dead_kind, partial_kind}
use Rattle.table_entries.specs.Plain.{AgainBy, AgainWhere, EntersPlainly, RefersPlainly, ResumesPlainly, TypedPlainly, TypesAgain, TypesPlainly, WaitsPlainly, is_own_of, kind_of, left_dead, left_partial, left_shared}
use Rattle.table_entries.specs.declared.entries.Entered.{Entered}
use Rattle.table_entries.specs.declared.entries.Entered.TheVariants.{Recorded, Opened, Unsettled}
use Rattle.table_entries.specs.declared.resuming.Resumed.{Resumed}
use Rattle.table_entries.specs.declared.resuming.Resumed.TheVariants as again
use Rattle.refusal_laws.specs.Repeated.{IsUntouched, cell, life, maps, privilege, word}

-- the words x are those of m where nothing is touched
abbrev pub Spares : Words → Words → Type 0
Spares m x = (q : Place) → IsUntouched q → x q ≡ m q

pub spares_then : (m x y : Words) → Spares m x → Spares x y → Spares m y
spares_then m x y a b q off = b q off ∙ a q off

pub leaves_spares : (w : PortValue) (m x : Words) → Leaves w x → Spares m x → Spares m (told_word w)
leaves_spares w m x leaves spares q off = leaves q ∙ spares q off

pub alike_spares : (m x : Words) → Alike x m → Spares m x
alike_spares m x alike _ (cell f i) = alike (Cell f i)
alike_spares m x alike _ (maps f) = alike (M2p f)
alike_spares m x alike _ (life d) = alike (Life d)
alike_spares m x alike _ (privilege d) = alike (Priv d)
alike_spares m x alike _ (word s k a b) = alike (Vcpu s k) a b

-- ---- one act
pub refs_spares : (a : Act) (f : ℕ) (m : Words) → Spares m (change a (Refs f) m)
refs_spares a f m _ (cell g i) = refl
refs_spares a f m _ (maps g) = refl
refs_spares a f m _ (life d) = refl
refs_spares a f m _ (privilege d) = refl
refs_spares a f m _ (word s k b c) = refl

pub kind_spares : (a : Act) (f : ℕ) (m : Words) → Spares m (change a (Kind f) m)
kind_spares a f m _ (cell g i) = refl
kind_spares a f m _ (maps g) = refl
kind_spares a f m _ (life d) = refl
kind_spares a f m _ (privilege d) = refl
kind_spares a f m _ (word s k b c) = refl

pages_spares : (a : Act) (f : ℕ) (m : Words) → Spares m (change a (Pages f) m)
pages_spares a f m _ (cell g i) = refl
pages_spares a f m _ (maps g) = refl
pages_spares a f m _ (life d) = refl
pages_spares a f m _ (privilege d) = refl
pages_spares a f m _ (word s k b c) = refl

map_spares : (a : Act) (f : ℕ) (m : Words) → Spares m (change a (Map f) m)
map_spares a f m _ (cell g i) = refl
map_spares a f m _ (maps g) = refl
map_spares a f m _ (life d) = refl
map_spares a f m _ (privilege d) = refl
map_spares a f m _ (word s k b c) = refl

-- ---- references and types
pub got_spares : (f : ℕ) (m : Words) → Spares m (got f m)
got_spares f m = refs_spares _ f m

free_spares : (f owner : ℕ) (m : Words) → Spares m (set_free f owner m)
free_spares f owner m =
    let a = change (Add (map_bit f)) (Map (f / 64)) m in
    let b = change (Store (ref_write (Free (stamp_now m)))) (Refs f) a in
    spares_then m b (set_free f owner m) (spares_then m a b (map_spares (Add (map_bit f)) (f / 64) m) (refs_spares (Store (ref_write (Free (stamp_now m)))) f a)) (pages_spares (Add one_down) owner b)

put_by : (b : Bool) (f owner : ℕ) (m : Words) → Spares m (if b then set_free f owner (lowered f m) else lowered f m)
put_by true f owner m = spares_then m (lowered f m) (set_free f owner (lowered f m)) (refs_spares (Add one_down) f m) (free_spares f owner (lowered f m))
put_by false f owner m = refs_spares (Add one_down) f m

pub put_spares : (f : ℕ) (m : Words) → Spares m (put f m)
put_spares f m = put_by (ref_count (m (Refs f)) == 1) f (owner_number (owner_of (m (Refs f)))) m

set_spares : (f : ℕ) (k : KindWord) (m x : Words) → Spares m x → Spares m (set_kind f k x)
set_spares f k m x spares = spares_then m x (set_kind f k x) spares (kind_spares (Store (kind_write k)) f x)

less_by : (b : Bool) (f : ℕ) (m : Words) → Spares m (if b then put f m else m)
less_by true f m = put_spares f m
less_by false f m = λ q off. refl

less_spares : (f : ℕ) (k : KindWord) (s : Standing) (m : Words) → Spares m (less_kept f k s m)
less_spares f k stands.Partial m = less_by k.kept f m
less_spares f k stands.Counted m = λ q off. refl
less_spares f k stands.Dead m = λ q off. refl
less_spares f k stands.Busy m = λ q off. refl
less_spares f k stands.Other m = λ q off. refl

taken_spares : (f : ℕ) (t : PageType) (k : KindWord) (s : Standing) (way : Taken) (m : Words) → Spares m (taken_by f t k s way m)
taken_spares f t k stands.Counted way m = set_spares f _ m m (λ q off. refl)
taken_spares f t k stands.Dead types.Counted m = set_spares f _ m _ (less_spares f k stands.Dead m)
taken_spares f t k stands.Partial types.Counted m = set_spares f _ m _ (less_spares f k stands.Partial m)
taken_spares f t k stands.Busy types.Counted m = set_spares f _ m _ (less_spares f k stands.Busy m)
taken_spares f t k stands.Other types.Counted m = set_spares f _ m _ (less_spares f k stands.Other m)
taken_spares f t k stands.Dead (types.InWork progress own) m = set_spares f _ m _ (less_spares f k stands.Dead m)
taken_spares f t k stands.Partial (types.InWork progress own) m = set_spares f _ m _ (less_spares f k stands.Partial m)
taken_spares f t k stands.Busy (types.InWork progress own) m = set_spares f _ m _ (less_spares f k stands.Busy m)
taken_spares f t k stands.Other (types.InWork progress own) m = set_spares f _ m _ (less_spares f k stands.Other m)
taken_spares f t k stands.Dead (types.Waiting own stamp stop) m = set_spares f _ m _ (less_spares f k stands.Dead m)
taken_spares f t k stands.Partial (types.Waiting own stamp stop) m = set_spares f _ m _ (less_spares f k stands.Partial m)
taken_spares f t k stands.Busy (types.Waiting own stamp stop) m = set_spares f _ m _ (less_spares f k stands.Busy m)
taken_spares f t k stands.Other (types.Waiting own stamp stop) m = set_spares f _ m _ (less_spares f k stands.Other m)

pub type_spares : (w : PortValue) (m : Words) (f : ℕ) (t : PageType) (way : Taken) → Alike (told_word w) (taken f t way m) → Spares m (told_word w)
type_spares w m f t way alike = spares_then m (taken f t way m) (told_word w) (taken_spares f t (kind_of m f) (standing_of (kind_of m f) t) way m) (alike_spares (taken f t way m) (told_word w) alike)

-- ---- the next entry
module _ (w : PortValue) (m : Words) (g : ℕ) (t : PageType) where
  by_alike : (x : Words) → Spares m x → Alike (told_word w) x → Spares m (told_word w)
  by_alike x spares alike = spares_then m x (told_word w) spares (alike_spares x (told_word w) alike)

  partial_spares : Spares m (left_partial g t m)
  partial_spares = set_spares g _ m _ (less_spares g (kind_of m g) (standing_of (kind_of m g) t) m)

  shared_spares : Spares m (left_shared g t m)
  shared_spares =
      let x = set_kind g (partial_kind t false true 0 0) m in
      spares_then m x (put g x) (set_spares g (partial_kind t false true 0 0) m m (λ q off. refl)) (put_spares g x)

  dead_spares : Spares m (left_dead g t m)
  dead_spares =
      let x = set_kind g (dead_kind t true 0) (less_kept g (kind_of m g) (standing_of (kind_of m g) t) m) in
      spares_then m x (put g x) (set_spares g (dead_kind t true 0) m _ (less_spares g (kind_of m g) (standing_of (kind_of m g) t) m)) (put_spares g x)

  waits_spares : (own : Bool) → WaitsPlainly w m g t own → Spares m (told_word w)
  waits_spares true a = by_alike (left_dead g t m) dead_spares a.1
  waits_spares false a = by_alike (left_shared g t m) shared_spares a

  typed_spares : (answer : Result Entered Stop) → TypesPlainly w m g t answer → Spares m (told_word w)
  typed_spares (Ok Recorded) a = type_spares w m g t types.Counted a.1
  typed_spares (Ok (Opened f progress own)) a = type_spares w m g t (types.InWork progress own) a.2
  typed_spares (Ok (Unsettled stop)) a = by_alike (left_partial g t m) partial_spares a.3
  typed_spares (Err (Refused (refusals.Clock x))) a = waits_spares (is_own_of m g t) a.1
  typed_spares (Err (Refused _)) a = leaves_spares w m (put g m) a.1 (put_spares g m)
  typed_spares (Err (Paused (pauses.Flush u y x))) a = by_alike (left_shared g t m) shared_spares a.2
  typed_spares (Err (Paused _)) a = leaves_spares w m (put g m) a.1 (put_spares g m)

  again_spares : (answer : Result Resumed Stop) → TypesAgain w m g t answer → Spares m (told_word w)
  again_spares (Ok again.Settled) a = absurd a
  again_spares (Ok (again.Taken f)) a = type_spares w m g t types.Counted a.2
  again_spares (Ok (again.Opened f progress)) a = type_spares w m g t (types.InWork progress false) a.2
  again_spares (Ok (again.Waiting f stamp stop)) a = type_spares w m g t (types.Waiting false stamp stop) a.2
  again_spares (Err e) a = leaves_spares w m (put g m) a.1 (put_spares g m)

same_spares : (w : PortValue) (m : Words) → Leaves w m → Spares m (told_word w)
same_spares w m leaves q off = leaves q

module _ (n : Machine) (w : PortValue) (m : Words) (owner : ℕ) where
  refers_spares : (answer : Result Entered Stop) (g : ℕ) (o : Option Refusal) → RefersPlainly w m answer o (got g m) → Spares m (told_word w)
  refers_spares answer g (Some x) a = same_spares w m a.1
  refers_spares answer g None a = leaves_spares w m (got g m) a.1 (got_spares g m)

  asks_spares : (answer : Result Entered Stop) (g : ℕ) (t : PageType) (o : Option Refusal) → TypedPlainly w m g t answer o → Spares m (told_word w)
  asks_spares answer g t (Some x) a = same_spares w m a.1
  asks_spares answer g t None a = spares_then m (got g m) (told_word w) (got_spares g m) (typed_spares w (got g m) g t answer a)

  pub enters_spares : (f i : ℕ) (answer : Result Entered Stop) (e : Demand) → EntersPlainly n w m f i owner answer e → Spares m (told_word w)
  enters_spares f i answer demands.Nothing a = same_spares w m a.1
  enters_spares f i answer demands.Bad a = same_spares w m a.1
  enters_spares f i answer (demands.Read g) a = refers_spares answer g (refer n owner g (m (Refs g))) a
  enters_spares f i answer (demands.Typed g t) a = asks_spares answer g t (refer n owner g (m (Refs g))) a

  back_by : (answer : Result Resumed Stop) (g : ℕ) (t : PageType) (o : Option Refusal) → AgainBy w m g t answer o → Spares m (told_word w)
  back_by answer g t (Some x) a = same_spares w m a.1
  back_by answer g t None a = spares_then m (got g m) (told_word w) (got_spares g m) (again_spares w (got g m) g t answer a)

  where_by : (answer : Result Resumed Stop) (g : ℕ) (t : PageType) (b : Bool) → AgainWhere n w m g t owner answer b → Spares m (told_word w)
  where_by answer g t true a = same_spares w m a.1
  where_by answer g t false a = back_by answer g t (refer n owner g (m (Refs g))) a

  pub resumes_spares : (answer : Result Resumed Stop) (e : Demand) → ResumesPlainly n w m owner answer e → Spares m (told_word w)
  resumes_spares answer (demands.Typed g t) a = where_by answer g t (nat_lt g n.frames && is_live_word (m (Kind g))) a
  resumes_spares answer demands.Nothing a = same_spares w m a.1
  resumes_spares answer demands.Bad a = same_spares w m a.1
  resumes_spares answer (demands.Read g) a = same_spares w m a.1
