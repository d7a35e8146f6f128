-- Steps and calls that let no frame die: behind them no frame is just being given back, where none was before.
use Rattle.std.proofs.Common.{◌≡◌, ◌≢◌, ℕ, ◌+◌, ◌*◌, ◌/◌, ◌%◌, ◌^◌, ◌<◌, ◌==◌, ◌&&◌, nat_le, nat_lt, if◌then◌else◌, Bool, true, false, Option, Some, None, Ok, Err, refl, sym, ap, ◌∙◌, subst, arith, inl, inr}
use Rattle.std.proofs.lemmas.Bool.{cases_Bool}
use Rattle.std.proofs.lemmas.Bool.Decides.{nat_tests}
use Rattle.xp_words.specs.Machine.{IsMachine, Machine}
use Rattle.xp_words.specs.RefWords.{IsRef, ref_of_fields, ref_read, ref_write}
use Rattle.xp_words.specs.declared.place.Place.{Place}
use Rattle.xp_words.specs.declared.place.Place.TheVariants.{Kind, Refs}
use Rattle.xp_words.specs.declared.refs.RefWord.{RefWord}
use Rattle.xp_words.specs.declared.refs.RefWord.TheVariants.{Dying, Free, Owned}
use Rattle.xp_words.proofs.RefLaws.{ref_read-write, ref_write-read}
use Rattle.xp_board.specs.Acts.{left_by}
use Rattle.xp_board.specs.Readings.{is_dying, is_dying_in, is_free, owner_of, ref_count}
use Rattle.xp_board.specs.RefSteps.{one_down, owner_number}
use Rattle.xp_board.specs.declared.step.Act.TheVariants.{Add}
use Rattle.xp_board.proofs.RefWords.{is_dying-read, owned_says, read_small}
use Rattle.step_maker.specs.Plain.{Words}
use Rattle.xp_words.specs.declared.reply.Refusal.TheVariants.{CountFull, NoFrame, WrongOwner}
use Rattle.xp_board.specs.Readings.{is_free_in}
use Rattle.xp_board.specs.Told.{PortValue, is_telling, told_word}
use Rattle.xp_board.specs.declared.step.Act.{Act}
use Rattle.xp_board.specs.declared.step.Act.TheVariants.{Load}
use Rattle.xp_board.specs.declared.step.Mark.{Mark}
use Rattle.xp_board.specs.declared.step.StepKind.{StepKind}
use Rattle.step_maker.specs.Moves.{Came, Moves}
use Rattle.step_maker.specs.Twins.{Alike}
use Rattle.step_maker.proofs.Coming.{came_self, came_trans, moves_came, same_machine}
use Rattle.step_maker.proofs.Telling.{came_telling, load_tells, told_elsewhere}
use Rattle.frame_words.specs.Plain.{got, lowered, one_more, put, refer, refer_by, set_free, stamp_now}
use Rattle.frame_words.proofs.FreeSteps.{free_read}
use Rattle.xp_words.specs.declared.reply.Refusal.{Refusal}
use Rattle.xp_words.specs.declared.reply.Stop.TheVariants.{Refused}
use Rattle.table_entries.specs.Acquiring.{GaveRef, GotRef}
use Rattle.table_entries.proofs.Shared.{gave_came, ref_came}
use Rattle.xp_words.specs.KindWords.{kind_fields}
use Rattle.xp_words.specs.declared.kind.KindWord.{KindWord}
use Rattle.xp_words.specs.declared.kind.PageType.{PageType}
use Rattle.xp_board.specs.KindSteps.{raised_kind}
use Rattle.step_maker.proofs.Visiting.{does_came}
use Rattle.frame_types.specs.Plain.{less_kept, set_kind, stop_by, taken, taken_by, type_stop}
use Rattle.frame_types.specs.Standing.{standing_of}
use Rattle.frame_types.specs.declared.standing.Standing.{Standing}
use Rattle.frame_types.specs.declared.standing.Standing.TheVariants as stands
use Rattle.frame_types.specs.declared.taking.Taken.{Taken}
use Rattle.frame_types.specs.declared.taking.Taken.TheVariants as types
use Rattle.partial_state.specs.Levels.{level_type}
use Rattle.table_entries.specs.Acquiring.{TookType}
use Rattle.shown_words.specs.Shown.{IsSettledRef, NoneDies}

-- ---- words
-- one less is the word of a dying frame only where it was the last reference
last_one : (w : ℕ) → w < 2 ^ 64 → is_dying ((w + one_down) % 2 ^ 64) ≡ true → is_dying w ≡ false → ref_count w ≡ 1
unfolding IsRef ref_write
last_one w small on off =
    let below = (w + one_down) % 2 ^ 64 in
    let d = is_dying-read below on in
    let back = ref_write-read below (Dying d.0) (read_small below (Dying d.0) d.1) d.1 in
    let low : d.0 < 2 ^ 16 = back.0 in
    let is : below ≡ 2 ^ 63 + d.0 * 2 ^ 32 = sym back.1 in
    let was : w ≡ ref_write (Owned d.0 false 1) = omega (arith, is, low, small) in
    let reads : ref_read w ≡ Some (Owned d.0 false 1) = ap ref_read was ∙ ref_read-write (Owned d.0 false 1) (low, omega arith, omega arith) in
    (owned_says w d.0 false 1 reads).counts

lowered_settled : (w : ℕ) → IsSettledRef w → (ref_count w == 1) ≡ false → IsSettledRef ((w + one_down) % 2 ^ 64)
lowered_settled w s many =
    elim (cases_Bool (is_dying ((w + one_down) % 2 ^ 64))) [
      | inl on ↦ absurd (let one = last_one w s.small on s.owned in grind (arith, nat_tests))
      | inr off ↦ record { small = omega arith; owned = off }
    ]

free_settled : (stamp : ℕ) → stamp < 2 ^ 36 → IsSettledRef (ref_write (Free stamp))
unfolding is_dying ref_write
free_settled stamp low = record { small = omega arith; owned = ap is_dying_in (free_read stamp low) }

owned_small : (o c : ℕ) (a : Bool) → IsRef (Owned o a c) → ref_write (Owned o a c) < 2 ^ 64
unfolding IsRef ref_write
owned_small o c true is = let x = is.0 in let y = is.2 in omega arith
owned_small o c false is = let x = is.0 in let y = is.2 in omega arith

pub owned_settled : (o c : ℕ) (a : Bool) → IsRef (Owned o a c) → IsSettledRef (ref_write (Owned o a c))
unfolding is_dying
owned_settled o c a is = record { small = owned_small o c a is; owned = ap is_dying_in (ref_read-write (Owned o a c) is) }

pub either : (b : Bool) (x y : ℕ) → (b ≡ true → IsSettledRef x) → IsSettledRef y → IsSettledRef (if b then x else y)
either true x y a e = a refl
either false x y a e = e

-- a reference more, where it is to be had
one_settled : (n : Machine) (owner w : ℕ) (r : Option RefWord) → IsMachine n → ref_read w ≡ r → (f : ℕ) → refer_by n.limit owner f w r ≡ None → IsSettledRef (one_more w r)
unfolding IsRef
one_settled n owner w (Some (Free stamp)) machine is f none = absurd cc
one_settled n owner w (Some (Dying o)) machine is f none = absurd cc
one_settled n owner w None machine is f none = absurd cc
one_settled n owner w (Some (Owned o a c)) machine is f none = by (o == owner) (nat_le n.limit c) refl none
  where
    by : (b k : Bool) → nat_le n.limit c ≡ k → (if b then (if k then Some (CountFull f w) else None) else Some (WrongOwner f w)) ≡ None → IsSettledRef (ref_write (Owned o a (c + 1)))
    by false k full out = absurd cc
    by true true full out = absurd cc
    by true false full out =
        let was = (ref_write-read w (Owned o a c) (read_small w (Owned o a c) is) is).0 in
        owned_settled o (c + 1) a (was.0, omega arith, (let low : c < n.limit = grind (arith, nat_tests) in let few = machine.few_counts in omega arith))

pub got_none : (n : Machine) (owner f : ℕ) (m : Words) → IsMachine n → refer n owner f (m (Refs f)) ≡ None → NoneDies m → NoneDies (got f m)
unfolding left_by
got_none n owner f m machine none settled g = either (g == f) _ (m (Refs g)) (λ same. by (nat_lt f n.frames) none) (settled g)
  where
    by : (b : Bool) → (if b then refer_by n.limit owner f (m (Refs f)) (ref_read (m (Refs f))) else Some (NoFrame f)) ≡ None → IsSettledRef (one_more (m (Refs f)) (ref_read (m (Refs f))))
    by true out = one_settled n owner (m (Refs f)) (ref_read (m (Refs f))) machine refl f out
    by false out = absurd cc

put_by : (b : Bool) (owner f : ℕ) (m : Words) → (ref_count (m (Refs f)) == 1) ≡ b → NoneDies m → NoneDies (if b then set_free f owner (lowered f m) else lowered f m)
unfolding left_by
put_by true owner f m one settled g =
    let stamp = stamp_now (lowered f m) in
    let low : stamp < 2 ^ 36 = omega arith in
    through (g == f) (ref_write (Free stamp)) (left_by (Add one_down) (m (Refs f))) (free_settled stamp low) (settled g)
  where
    through : (b : Bool) (x y : ℕ) → IsSettledRef x → IsSettledRef (m (Refs g)) → IsSettledRef (if b then x else (if b then y else m (Refs g)))
    through true x y a e = a
    through false x y a e = e
put_by false owner f m many settled g = either (g == f) _ (m (Refs g)) (λ same. lowered_settled (m (Refs f)) (settled f) many) (settled g)

pub put_none : (f : ℕ) (m : Words) → NoneDies m → NoneDies (put f m)
put_none f m settled = put_by (ref_count (m (Refs f)) == 1) (owner_number (owner_of (m (Refs f)))) f m refl settled

free_owned : (w : ℕ) (r : Option RefWord) → ref_read w ≡ r → is_free w ≡ true → is_dying w ≡ false
unfolding is_free is_dying
free_owned w (Some (Free stamp)) is free = ap is_dying_in is
free_owned w (Some (Owned o a c)) is free = ap is_dying_in is
free_owned w (Some (Dying o)) is free = absurd (let e = sym (ap (λ r. is_free_in r) is) ∙ free in cc)
free_owned w None is free = ap is_dying_in is

free_small : (w : ℕ) → is_free w ≡ true → w < 2 ^ 64
unfolding is_free ref_read
free_small w free = by (nat_lt w (2 ^ 36)) refl free
  where
    by : (b : Bool) → nat_lt w (2 ^ 36) ≡ b → is_free_in (if b then Some (Free w) else (if (w / 2 ^ 48 == 2 ^ 15) && (w / 2 ^ 26 % 2 ^ 5 == 0) then ref_of_fields (w / 2 ^ 32 % 2 ^ 16) (w / 2 ^ 31 % 2) (w % 2 ^ 26) else None)) ≡ true → w < 2 ^ 64
    by true low on = (let k : w < 2 ^ 36 = grind (arith, nat_tests) in omega (arith, k))
    by false low on = other ((w / 2 ^ 48 == 2 ^ 15) && (w / 2 ^ 26 % 2 ^ 5 == 0)) refl
      where
        other : (c : Bool) → ((w / 2 ^ 48 == 2 ^ 15) && (w / 2 ^ 26 % 2 ^ 5 == 0)) ≡ c → w < 2 ^ 64
        other true is = (let k : w / 2 ^ 48 ≡ 2 ^ 15 = grind (arith, nat_tests) in omega (arith, k))
        other false is = absurd (let e = subst (λ c. is_free_in (if c then ref_of_fields (w / 2 ^ 32 % 2 ^ 16) (w / 2 ^ 31 % 2) (w % 2 ^ 26) else None) ≡ true) is on in cc)

free_word : (w : ℕ) → is_free w ≡ true → IsSettledRef w
free_word w free = record { small = free_small w free; owned = free_owned w (ref_read w) refl free }

-- ---- ports
pub record Settling (v w : PortValue) : Type 0 where
  pub came : Came v w
  pub none : IsMachine v.post.machine → is_telling v ≡ true → NoneDies (told_word v) → NoneDies (told_word w)

pub nothing_settling : (v : PortValue) → Settling v v
nothing_settling v = record { came = came_self v; none = λ machine telling n. n }

pub settling_then : (v u w : PortValue) → Settling v u → Settling u w → Settling v w
settling_then v u w a b = record { came = came_trans v u w a.came b.came; none = λ machine telling n. b.none (subst IsMachine (sym (same_machine v u a.came)) machine) (came_telling v u a.came ∙ telling) (a.none machine telling n) }

pub same_none : (m x : Words) → ((g : ℕ) → x (Refs g) ≡ m (Refs g)) → NoneDies m → NoneDies x
same_none m x same n g = subst IsSettledRef (sym (same g)) (n g)

-- words that are alike but for stamps
pub alike_none : (m x : Words) → Alike x m → NoneDies m → NoneDies x
alike_none m x alike n g = elim (alike (Refs g)) [
  | inl e ↦ subst IsSettledRef (sym e) (n g)
  | inr free ↦ free_word (x (Refs g)) free.0
]

-- a step at another word
pub off_settling : (v w : PortValue) (p : Place) (a : Act) (kind : StepKind) (mark : Option Mark) (found : ℕ) → ((g : ℕ) → Refs g ≢ p) → Moves v w p a kind mark found → Settling v w
off_settling v w p a kind mark found off m =
    record { came = moves_came v w p a kind mark found m; none = λ machine telling n. same_none (told_word v) (told_word w) (λ g. told_elsewhere v w p a kind mark found m (Refs g) (off g)) n }

-- a look
pub look_settling : (v w : PortValue) (p : Place) (kind : StepKind) (mark : Option Mark) (found : ℕ) → Moves v w p Load kind mark found → Settling v w
look_settling v w p kind mark found m =
    record { came = moves_came v w p Load kind mark found m; none = λ machine telling n. same_none (told_word v) (told_word w) (λ g. load_tells v w p kind mark found m telling (Refs g)) n }

-- ---- references
pub had_settling : (v w : PortValue) (f owner g : ℕ) → GotRef v w f owner (Ok g) → Settling v w
had_settling v w f owner g a =
    record {
      came = ref_came v w f owner (Ok g) a;
      none = λ machine telling n. let is = a.plain telling in same_none (got f (told_word v)) (told_word w) (λ h. is.1 (Refs h)) (got_none v.post.machine owner f (told_word v) machine is.0 n);
    }

pub shown : (f w g x : ℕ) → Some (WrongOwner f w) ≡ Some (WrongOwner g x) → w ≡ x
shown f w g x is = ap (λ o. second o) is
  where
    second : Option Refusal → ℕ
    second (Some (WrongOwner a b)) = b
    second _ = 0

-- what a refusal shows is the word that is told there
refused_by : (n : Machine) (owner f w : ℕ) (r : Option RefWord) (g x : ℕ) → refer_by n.limit owner f w r ≡ Some (WrongOwner g x) → x ≡ w
refused_by n owner f w (Some (Free stamp)) g x is = sym (shown f w g x is)
refused_by n owner f w (Some (Dying o)) g x is = sym (shown f w g x is)
refused_by n owner f w None g x is = sym (shown f w g x is)
refused_by n owner f w (Some (Owned o a c)) g x is = by (o == owner) (nat_le n.limit c) is
  where
    by : (b k : Bool) → (if b then (if k then Some (CountFull f w) else None) else Some (WrongOwner f w)) ≡ Some (WrongOwner g x) → x ≡ w
    by false k is = sym (shown f w g x is)
    by true true is = absurd cc
    by true false is = absurd cc

pub refused_word : (n : Machine) (owner f w g x : ℕ) → refer n owner f w ≡ Some (WrongOwner g x) → x ≡ w
refused_word n owner f w g x is = by (nat_lt f n.frames) is
  where
    by : (b : Bool) → (if b then refer_by n.limit owner f w (ref_read w) else Some (NoFrame f)) ≡ Some (WrongOwner g x) → x ≡ w
    by true is = refused_by n owner f w (ref_read w) g x is
    by false is = absurd cc

pub ref_shows : (v w : PortValue) (f owner g x : ℕ) → GotRef v w f owner (Err (Refused (WrongOwner g x))) → is_telling v ≡ true → NoneDies (told_word v) → is_dying x ≡ false
ref_shows v w f owner g x a telling n = ap is_dying (refused_word v.post.machine owner f (told_word v (Refs f)) g x (a.plain telling).0) ∙ (n f).owned

pub gave_settling : (v w : PortValue) (f : ℕ) → GaveRef v w f → Settling v w
gave_settling v w f a = record { came = gave_came v w f a; none = λ machine telling n. same_none (put f (told_word v)) (told_word w) (λ h. a.plain telling (Refs h)) (put_none f (told_word v) n) }

-- ---- types
pub less_none : (f : ℕ) (k : KindWord) (s : Standing) (m : Words) → NoneDies m → NoneDies (less_kept f k s m)
less_none f k stands.Partial m n = by k.kept
  where
    by : (b : Bool) → NoneDies (if b then put f m else m)
    by true = put_none f m n
    by false = n
less_none f k stands.Counted m n = n
less_none f k stands.Dead m n = n
less_none f k stands.Busy m n = n
less_none f k stands.Other m n = n

-- a kind word alone is another one
pub kind_none : (f : ℕ) (k : KindWord) (m : Words) → NoneDies m → NoneDies (set_kind f k m)
kind_none f k m n g = n g

taken_none : (f : ℕ) (want : PageType) (k : KindWord) (s : Standing) (way : Taken) (m : Words) → NoneDies m → NoneDies (taken_by f want k s way m)
taken_none f want k stands.Counted way m n = kind_none f (raised_kind k) m n
taken_none f want k stands.Dead types.Counted m n = n
taken_none f want k stands.Partial types.Counted m n = less_none f k stands.Partial m n
taken_none f want k stands.Busy types.Counted m n = n
taken_none f want k stands.Other types.Counted m n = n
taken_none f want k stands.Dead (types.InWork progress own) m n = n
taken_none f want k stands.Partial (types.InWork progress own) m n = less_none f k stands.Partial m n
taken_none f want k stands.Busy (types.InWork progress own) m n = n
taken_none f want k stands.Other (types.InWork progress own) m n = n
taken_none f want k stands.Dead (types.Waiting own stamp stop) m n = n
taken_none f want k stands.Partial (types.Waiting own stamp stop) m n = less_none f k stands.Partial m n
taken_none f want k stands.Busy (types.Waiting own stamp stop) m n = n
taken_none f want k stands.Other (types.Waiting own stamp stop) m n = n

-- the type of a frame is taken
pub take_none : (w : PortValue) (m : Words) (f : ℕ) (want : PageType) (way : Taken) → Alike (told_word w) (taken f want way m) → NoneDies m → NoneDies (told_word w)
take_none w m f want way alike n =
    alike_none (taken f want way m) (told_word w) alike (taken_none f want (kind_fields (m (Kind f))) (standing_of (kind_fields (m (Kind f))) want) way m n)

pub type_settling : (v w : PortValue) (f owner level : ℕ) (way : Taken) → TookType v w f owner level (Ok way) → Settling v w
type_settling v w f owner level way a =
    record { came = does_came v w _ a.found; none = λ machine telling n. take_none w (told_word v) f (level_type level) way (a.plain telling).2 n }

-- a type is never refused for an owner
unowned_by : (f g x w : ℕ) (want : PageType) (s : Standing) → stop_by f want w s ≡ Some (Refused (WrongOwner g x)) → ⊥
unowned_by f g x w want stands.Other is = absurd cc
unowned_by f g x w want stands.Busy is = absurd cc
unowned_by f g x w want stands.Counted is = absurd cc
unowned_by f g x w want stands.Dead is = absurd cc
unowned_by f g x w want stands.Partial is = absurd cc

pub type_unowned : (f g x w : ℕ) (want : PageType) → type_stop f want w ≡ Some (Refused (WrongOwner g x)) → ⊥
type_unowned f g x w want is = unowned_by f g x w want (standing_of (kind_fields w) want) is
