-- Looks at an entry and at the frame that it asks, on a board that tells all words.
use Rattle.std.proofs.Common.{◌≡◌, ℕ, ◌<◌, ◌≤◌, ◌&&◌, nat_lt, Bool, true, false, Option, Result, Ok, None, refl, sym, ap, ◌∙◌, subst, arith, Some, Err}
use Rattle.std.proofs.lemmas.Bool.Decides.{nat_tests}
use Rattle.xp_words.specs.Entries.{demand_at}
use Rattle.xp_words.specs.Machine.{Machine}
use Rattle.xp_words.specs.declared.entry.Demand.{Demand}
use Rattle.xp_words.specs.declared.entry.Demand.TheVariants.{Typed, Read}
use Rattle.xp_words.specs.declared.kind.PageType.{PageType}
use Rattle.xp_words.specs.declared.place.Place.{Place}
use Rattle.xp_words.specs.declared.place.Place.TheVariants.{Cell, Kind, Refs}
use Rattle.xp_words.specs.declared.reply.Stop.{Stop}
use Rattle.xp_board.specs.declared.step.Act.TheVariants.{Load}
use Rattle.xp_board.specs.declared.step.Mark.{Mark}
use Rattle.xp_board.specs.declared.step.StepKind.{StepKind}
use Rattle.xp_board.specs.Readings.{is_live_word}
use Rattle.xp_board.specs.Told.{PortValue, is_telling, told_word}
use Rattle.step_maker.specs.Moves.{Moves, Came}
use Rattle.step_maker.specs.Plain.{Leaves, Words}
use Rattle.step_maker.proofs.Telling.{load_tells, moves_telling, told_there, came_telling}
use Rattle.frame_words.specs.Plain.{refer, TwinGet, got, put}
use Rattle.table_entries.specs.Between.{LooksLive, found, outside}
use Rattle.table_entries.specs.Plain.{AgainBy, AgainWhere, EntersPlainly, ResumesPlainly, TwinEntry, TwinResume, RefersPlainly, TypedPlainly, TypesAgain, TypesPlainly}
use Rattle.table_entries.specs.declared.entries.Entered.{Entered}
use Rattle.table_entries.specs.declared.resuming.Resumed.{Resumed}
use Rattle.table_entries.specs.declared.resuming.Resumed.TheVariants.{Settled}
use Rattle.xp_words.specs.declared.reply.Refusal.{Refusal}
use Rattle.xp_words.specs.declared.reply.Stop.TheVariants.{Refused, Paused}
use Rattle.step_maker.specs.Twins.{AnswersAs, Alike}
use Rattle.table_entries.specs.declared.entries.Entered.TheVariants.{Recorded}
use Rattle.flush_waits.specs.Waiting.{IsWait}
use Rattle.frame_types.specs.Plain.{TakesPlainly, TwinTake, stop_by, taken, type_stop}
use Rattle.frame_types.specs.declared.standing.Standing.{Standing}
use Rattle.xp_board.specs.declared.step.StepKind.TheVariants as kinds
use Rattle.xp_words.specs.declared.reply.Pause.TheVariants as pauses
use Rattle.xp_words.specs.declared.reply.Refusal.TheVariants as refusals
use Rattle.frame_types.specs.declared.standing.Standing.TheVariants as stands
use Rattle.frame_types.specs.declared.taking.Taken.TheVariants as types

-- words told one by one, as one function
pub told_all : (w : PortValue) (m : Words) → Leaves w m → told_word w ≡ m
told_all w m leaves = λ i q. leaves q i

-- ---- one load
module _ {v w : PortValue} {p : Place} {k : StepKind} {mark : Option Mark} {word : ℕ} (m : Moves v w p Load k mark word) where
  pub load_keeps : is_telling v ≡ true → told_word w ≡ told_word v
  load_keeps telling = told_all w (told_word v) (load_tells v w p k mark word m telling)

  pub load_telling : is_telling v ≡ true → is_telling w ≡ true
  load_telling telling = moves_telling v w p Load k mark word m ∙ telling

  pub same_machine : w.post.machine ≡ v.post.machine
  same_machine = ap (λ (y : PortValue). y.post.machine) m.to

-- ---- the look at the entry
module _ {b v : PortValue} {f i : ℕ} (owner : ℕ) (t : PageType) {word : ℕ} {d : Demand} (l : Moves b v (Cell f i) Load kinds.Look None word) (asks : demand_at t i word ≡ d) where
  on : is_telling b ≡ true → is_telling v ≡ true
  on = load_telling l

  asked_there : is_telling b ≡ true → d ≡ demand_at t i (told_word b (Cell f i))
  asked_there telling = sym (ap (λ y. demand_at t i y) (told_there b v (Cell f i) Load kinds.Look None word l telling) ∙ asks)

  -- what holds of the words and the machine behind the look, and of the demand that it found
  before_look : (P : Machine → Words → Demand → Type 0) → is_telling b ≡ true → P v.post.machine (told_word v) d → P b.post.machine (told_word b) (demand_at t i (told_word b (Cell f i)))
  before_look P telling holds =
      subst (λ e. P b.post.machine (told_word b) e) (asked_there telling)
      (subst (λ m. P b.post.machine m d) (load_keeps l telling) (subst (λ n. P n (told_word v) d) (same_machine l) holds))

  pub twin_entry : (w : PortValue) (answer : Result Entered Stop) → (is_telling v ≡ true → EntersPlainly v.post.machine w (told_word v) f i owner answer d) → TwinEntry b w f t i owner answer
  twin_entry w answer plain telling = before_look (λ n m e. EntersPlainly n w m f i owner answer e) telling (plain (on telling))

  pub twin_resume : (w : PortValue) (answer : Result Resumed Stop) → (is_telling v ≡ true → ResumesPlainly v.post.machine w (told_word v) owner answer d) → TwinResume b w f t i owner answer
  twin_resume w answer plain telling = before_look (λ n m e. ResumesPlainly n w m owner answer e) telling (plain (on telling))

-- ---- the look at the frame
-- what it found, as the board told it; and nothing changed
pub record LiveThere (v w : PortValue) (g : ℕ) (live : Bool) : Type 0 where
  pub is : (nat_lt g v.post.machine.frames && is_live_word (told_word v (Kind g))) ≡ live
  pub same : told_word w ≡ told_word v
  pub telling : is_telling w ≡ true
  pub machine : w.post.machine ≡ v.post.machine

outside_frames : (g n : ℕ) (x : Bool) → n ≤ g → (nat_lt g n && x) ≡ false
outside_frames g n x out = grind (arith, nat_tests)

inside_frames : (g n : ℕ) (x : Bool) → g < n → (nat_lt g n && x) ≡ x
inside_frames g n x inside = grind (arith, nat_tests)

pub live_there : (v w : PortValue) (g : ℕ) (live : Bool) → LooksLive v w g live → is_telling v ≡ true → LiveThere v w g live
live_there v w g _ (outside out same) telling =
    record {
      is = outside_frames g v.post.machine.frames (is_live_word (told_word v (Kind g))) out;
      same = ap (λ (y : PortValue). told_word y) same;
      telling = ap (λ (y : PortValue). is_telling y) same ∙ telling;
      machine = ap (λ (y : PortValue). y.post.machine) same;
    }
live_there v w g _ (found word live inside look hand is) telling =
    record {
      is = inside_frames g v.post.machine.frames (is_live_word (told_word v (Kind g))) inside ∙ ap is_live_word (told_there v w (Kind g) Load kinds.Look None word look telling) ∙ is;
      same = load_keeps look telling;
      telling = load_telling look telling;
      machine = same_machine look;
    }

-- ---- the last recorded entry, whose frame was looked at
module _ {b u : PortValue} (v : PortValue) {f i : ℕ} (owner : ℕ) (t : PageType) {word g : ℕ} {want : PageType} (look : Moves b u (Cell f i) Load kinds.Look None word) (asks : demand_at t i word ≡ Typed g want) where
  -- it stands
  pub twin_live : LooksLive u v g true → TwinResume b v f t i owner (Ok Settled)
  twin_live live =
      twin_resume owner t look asks v (Ok Settled)
      (λ telling.
      let at = live_there u v g true live telling in
      subst (λ y. AgainWhere u.post.machine v (told_word u) g want owner (Ok Settled) y) (sym at.is) (refl, λ q. ap (λ (m : Words). m q) at.same))

  -- or it is taken again, by the words behind both looks
  pub twin_again : LooksLive u v g false → (w : PortValue) (answer : Result Resumed Stop) →
      (is_telling v ≡ true → AgainBy w (told_word v) g want answer (refer v.post.machine owner g (told_word v (Refs g)))) → TwinResume b w f t i owner answer
  twin_again live w answer by =
      twin_resume owner t look asks w answer
      (λ telling.
      let at = live_there u v g false live telling in
      subst (λ y. AgainWhere u.post.machine w (told_word u) g want owner answer y) (sym at.is)
      (subst (λ (m : Words). AgainBy w m g want answer (refer u.post.machine owner g (m (Refs g)))) at.same
      (subst (λ (n : Machine). AgainBy w (told_word v) g want answer (refer n owner g (told_word v (Refs g)))) at.machine (by at.telling))))

-- ---- What an entry takes, on a board that tells all words: behind the look at it.
-- ---- the reference is refused
refused_so : (v u : PortValue) (o : Option Refusal) (done : Words) (e : Stop) (P : Option Refusal → Stop → Type 0) → ((x : Refusal) → Leaves u (told_word v) → P (Some x) (Refused x)) → AnswersAs {A = ℕ} v u o done (Err e) → P o e
refused_so v u o done (Refused x) P holds is = subst (λ r. P r (Refused x)) (sym is.0) (holds x is.1)
refused_so v u o done (Paused x) P holds is = absurd is

module _ (v u : PortValue) (g owner : ℕ) (e : Stop) (gets : TwinGet {A = ℕ} v u g owner (Err e)) (telling : is_telling v ≡ true) where
  pub read_refused : (f i : ℕ) → EntersPlainly v.post.machine u (told_word v) f i owner (Err e) (Read g)
  read_refused f i =
      refused_so v u (refer v.post.machine owner g (told_word v (Refs g))) (got g (told_word v)) e (λ o s. RefersPlainly u (told_word v) (Err s) o (got g (told_word v))) (λ x same. (refl, same)) (gets telling)

  pub typed_refused : (f i : ℕ) (t : PageType) → EntersPlainly v.post.machine u (told_word v) f i owner (Err e) (Typed g t)
  typed_refused f i t =
      refused_so v u (refer v.post.machine owner g (told_word v (Refs g))) (got g (told_word v)) e (λ o s. TypedPlainly u (told_word v) g t (Err s) o) (λ x same. (refl, same)) (gets telling)

  pub again_refused : (t : PageType) → AgainBy u (told_word v) g t (Err e) (refer v.post.machine owner g (told_word v (Refs g)))
  again_refused t =
      refused_so v u (refer v.post.machine owner g (told_word v (Refs g))) (got g (told_word v)) e (λ o s. AgainBy u (told_word v) g t (Err s) o) (λ x same. (refl, same)) (gets telling)

-- ---- or it is taken
module _ (v u : PortValue) (g h owner : ℕ) (gets : TwinGet {A = ℕ} v u g owner (Ok h)) (telling : is_telling v ≡ true) where
  taken_words : told_word u ≡ got g (told_word v)
  taken_words = told_all u (got g (told_word v)) (gets telling).1

  behind : (P : Option Refusal → Type 0) → P None → P (refer v.post.machine owner g (told_word v (Refs g)))
  behind P holds = subst P (sym (gets telling).0) holds

  pub read_taken : (w : PortValue) (f i : ℕ) → told_word w ≡ told_word u → EntersPlainly v.post.machine w (told_word v) f i owner (Ok Recorded) (Read g)
  read_taken w f i same =
      behind (λ o. RefersPlainly w (told_word v) (Ok Recorded) o (got g (told_word v))) (refl, λ q. ap (λ (m : Words). m q) (same ∙ taken_words))

  pub typed_behind : (w : PortValue) (f i : ℕ) (t : PageType) (answer : Result Entered Stop) → TypesPlainly w (told_word u) g t answer → EntersPlainly v.post.machine w (told_word v) f i owner answer (Typed g t)
  typed_behind w f i t answer types =
      behind (λ o. TypedPlainly w (told_word v) g t answer o) (subst (λ (m : Words). TypesPlainly w m g t answer) taken_words types)

  pub again_behind : (w : PortValue) (t : PageType) (answer : Result Resumed Stop) → TypesAgain w (told_word u) g t answer → AgainBy w (told_word v) g t answer (refer v.post.machine owner g (told_word v (Refs g)))
  again_behind w t answer types =
      behind (λ o. AgainBy w (told_word v) g t answer o) (subst (λ (m : Words). TypesAgain w m g t answer) taken_words types)

-- ---- Types that an entry takes, on a board that tells all words: behind the reference.
-- what keeps a type from being had is no flush that is waited for
pub not_awaited : (g : ℕ) (t : PageType) (w : ℕ) (s : Standing) (e : Stop) → stop_by g t w s ≡ Some e → IsWait e → ⊥
not_awaited g t w stands.Counted e is wait = absurd (let k = is in cc)
not_awaited g t w stands.Dead e is wait = absurd (let k = is in cc)
not_awaited g t w stands.Partial e is wait = absurd (let k = is in cc)
not_awaited g t w stands.Other (Refused (refusals.OtherType f want x)) is wait = wait
not_awaited g t w stands.Other (Refused (refusals.Clock x)) is wait = absurd (let k = is in cc)
not_awaited g t w stands.Other (Refused _) is wait = wait
not_awaited g t w stands.Other (Paused _) is wait = absurd (let k = is in cc)
not_awaited g t w stands.Busy (Paused (pauses.Flush v stamp x)) is wait = absurd (let k = is in cc)
not_awaited g t w stands.Busy (Paused _) is wait = wait
not_awaited g t w stands.Busy (Refused _) is wait = absurd (let k = is in cc)

pub types_counted : (u y w : PortValue) (g : ℕ) (t : PageType) → TakesPlainly u y g t (Ok types.Counted) → told_word w ≡ told_word y → TypesPlainly w (told_word u) g t (Ok Recorded)
types_counted u y w g t twin same = ((twin.0, twin.1), subst (λ (m : Words). Alike m (taken g t types.Counted (told_word u))) (sym same) twin.2)

-- it is not to be had, and the reference is given back
module _ (u y z : PortValue) (g : ℕ) (t : PageType) (telling : is_telling u ≡ true) (came : Came u y) (puts : is_telling y ≡ true → Leaves z (put g (told_word y))) where
  pub again_stopped : (e : Stop) → TwinTake u y g t (Err e) → TypesAgain z (told_word u) g t (Err e)
  again_stopped e twin =
      let there = twin telling in
      (there.0, λ q. puts (came_telling u y came ∙ telling) q ∙ ap (λ (m : Words). put g m q) (told_all y (told_word u) there.1))

  pub types_stopped : (e : Stop) → TwinTake u y g t (Err e) → TypesPlainly z (told_word u) g t (Err e)
  types_stopped e twin = by_stop e (again_stopped e twin)
    where
      by_stop : (s : Stop) → (type_stop g t (told_word u (Kind g)) ≡ Some s) × Leaves z (put g (told_word u)) → TypesPlainly z (told_word u) g t (Err s)
      by_stop (Refused (refusals.Clock x)) a = absurd (not_awaited g t _ _ (Refused (refusals.Clock x)) a.0 tt)
      by_stop (Paused (pauses.Flush v stamp x)) a = absurd (not_awaited g t _ _ (Paused (pauses.Flush v stamp x)) a.0 tt)
      by_stop (Refused _) a = a
      by_stop (Paused _) a = a
