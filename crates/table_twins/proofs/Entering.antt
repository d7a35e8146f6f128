-- The next entry of a table on words and on the plain value that describes them.
use Rattle.std.proofs.Common.{◌≡◌, ℕ, suc, ◌<◌, ◌≤◌, ◌==◌, not, nat_lt, nat_le, if◌then◌else◌, Bool, true, false, Option, Some, None, Result, Ok, Err, refl, sym, ap, subst, arith}
use Rattle.std.proofs.lemmas.Bool.Decides.{nat_tests}
use Rattle.xp_words.specs.Entries.{demand_at}
use Rattle.xp_words.specs.Machine.{IsMachine, Machine}
use Rattle.xp_words.specs.declared.entry.Demand.{Demand}
use Rattle.xp_words.specs.declared.entry.Demand.TheVariants as demands
use Rattle.xp_words.specs.declared.kind.PageType.{PageType}
use Rattle.xp_words.specs.declared.place.Place.TheVariants.{Cell, Kind, Refs}
use Rattle.xp_words.specs.declared.reply.Pause.TheVariants as pauses
use Rattle.xp_words.specs.declared.reply.Refusal.{Refusal}
use Rattle.xp_words.specs.declared.reply.Refusal.TheVariants as refusals
use Rattle.xp_words.specs.declared.reply.Stop.{Stop}
use Rattle.xp_words.specs.declared.reply.Stop.TheVariants.{Refused, Paused}
use Rattle.xp_board.specs.Told.{PortValue, is_telling, told_word}
use Rattle.xp_board.proofs.StepLists.{from_lt as is_inside}
use Rattle.step_maker.specs.Plain.{Leaves, Words}
use Rattle.step_maker.proofs.Alikes.{same_alike}
use Rattle.frame_words.specs.Plain.{got, put, refer}
use Rattle.frame_types.specs.Plain.{type_stop}
use Rattle.frame_types.specs.declared.taking.Taken.TheVariants as types
use Rattle.table_entries.specs.Plain.{EntersPlainly, RefersPlainly, TwinEntry, TypedPlainly, TypesPlainly}
use Rattle.table_entries.specs.declared.entries.Entered.{Entered}
use Rattle.table_entries.specs.declared.entries.Entered.TheVariants.{Recorded, Opened, Unsettled}
use Rattle.partial_state.specs.Levels.{level_type}
use Rattle.table_law.specs.Alone.{Cause, PlainOutcome, CountFull, NoFrame, WrongOwner, fine, go_on, meet, refused, take_at, take_reference, take_reference_of}
use Rattle.table_law.specs.Levels.{entry_of}
use Rattle.table_law.specs.Plain.{Describes, Plain, Share, raised_share, reference_back, with_share}
use Rattle.table_law.proofs.Counting.{asks_at}
use Rattle.table_twins.specs.Answers.{IsSameAnswer}
use Rattle.table_twins.specs.Entries.{EntersAsPlain}
use Rattle.table_twins.proofs.Kinding.{described_alike}
use Rattle.table_twins.proofs.Referring.{same_answer, same_taken}
use Rattle.table_twins.proofs.Sharing.{same_back}
use Rattle.table_twins.proofs.Typing.{refused_plain, taken_plain}
use Rattle.table_twins.proofs.Waiting.{busy_says, given_back, only_busy, partial_again, shared_again}

-- ---- what a plain reference leaves
pub record LendsPlain (n : Machine) (g : ℕ) (p : Plain) (o : PlainOutcome) : Type 0 where
  pub lent : o.refusal ≡ None → (g < n.frames) × ((s : Share) × (o.left.shares g ≡ Some s))
  pub kept : (c : Cause) → o.refusal ≡ Some c → o.left ≡ p

is_itself : (g : ℕ) → (g == g) ≡ true
is_itself g = grind (arith, nat_tests)

module _ (n : Machine) (owner g : ℕ) (p : Plain) where
  lends_refused : (c : Cause) → LendsPlain n g p (refused c p)
  lends_refused c = record { lent = λ e. absurd cc; kept = λ x e. refl }

  lends_fine : g < n.frames → (s : Share) → LendsPlain n g p (fine (with_share g s p))
  lends_fine inside s = record { lent = λ e. (inside, (s, ap (λ b. if b then Some s else p.shares g) (is_itself g))); kept = λ x e. absurd cc }

  lends_owned : (b k : Bool) (s : Share) → g < n.frames → LendsPlain n g p (if not b then refused (WrongOwner g (Some s)) p else if k then refused (CountFull g s) p else fine (with_share g (raised_share s) p))
  lends_owned false k s inside = lends_refused (WrongOwner g (Some s))
  lends_owned true true s inside = lends_refused (CountFull g s)
  lends_owned true false s inside = lends_fine inside (raised_share s)

  lends_of : (o : Option Share) → g < n.frames → LendsPlain n g p (take_reference_of n owner g p o)
  lends_of None inside = lends_refused (WrongOwner g None)
  lends_of (Some s) inside = lends_owned (s.owner == owner) (nat_le n.limit s.count) s inside

  lends_by : (b : Bool) → (b ≡ true → g < n.frames) → LendsPlain n g p (if b then take_reference_of n owner g p (p.shares g) else refused (NoFrame g) p)
  lends_by true inside = lends_of (p.shares g) (inside refl)
  lends_by false inside = lends_refused (NoFrame g)

  lends : LendsPlain n g p (take_reference n owner g p)
  lends = lends_by (nat_lt g n.frames) (λ is. is_inside g n.frames is)

pub described_leaves : (n : Machine) (w : PortValue) (m : Words) (p : Plain) → Leaves w m → Describes n m p → Describes n (told_word w) p
described_leaves n w m p leaves d = described_alike n (told_word w) m p (same_alike (told_word w) m leaves) d

-- no plain value refuses for the clock
no_clock : (y : ℕ) (r : Option Cause) → IsSameAnswer (Some (refusals.Clock y)) r → ⊥
no_clock y None same = same
no_clock y (Some c) same = same

refused_as : (n : Machine) (l owner : ℕ) (p : Plain) (o : PlainOutcome) (m words : Words) (d : Demand) (x : Refusal) → IsSameAnswer (Some x) o.refusal × Describes n words o.left → EntersAsPlain n l owner p o m words d (Err (Refused x))
refused_as n l owner p o m words d (refusals.Clock y) a = absurd (no_clock y o.refusal a.0)
refused_as n l owner p o m words d _ a = a

some_cause : (x : Refusal) (r : Option Cause) → IsSameAnswer (Some x) r → (c : Cause) × (r ≡ Some c)
some_cause x None same = absurd same
some_cause x (Some c) same = (c, refl)

pub no_cause : (r : Option Cause) → IsSameAnswer None r → r ≡ None
no_cause None same = refl
no_cause (Some c) same = absurd same

module _ (n : Machine) (w : PortValue) (m : Words) (p : Plain) (f i l owner : ℕ) (machine : IsMachine n) (d : Describes n m p) where
  module _ (g : ℕ) where
    -- it is refused
    refused_same : (x : Refusal) → refer n owner g (m (Refs g)) ≡ Some x → IsSameAnswer (Some x) (take_reference n owner g p).refusal
    refused_same x is = subst (λ o. IsSameAnswer o (take_reference n owner g p).refusal) is (same_answer n m p owner g d)

    refused_left : (x : Refusal) → refer n owner g (m (Refs g)) ≡ Some x → Leaves w m → Describes n (told_word w) (take_reference n owner g p).left
    refused_left x is leaves =
        let c = some_cause x (take_reference n owner g p).refusal (refused_same x is) in
        subst (λ q. Describes n (told_word w) q) (sym ((lends n owner g p).kept c.0 c.1)) (described_leaves n w m p leaves d)

    fine_there : refer n owner g (m (Refs g)) ≡ None → (take_reference n owner g p).refusal ≡ None
    fine_there is = no_cause (take_reference n owner g p).refusal (subst (λ o. IsSameAnswer o (take_reference n owner g p).refusal) is (same_answer n m p owner g d))

    reads : (answer : Result Entered Stop) (o : Option Refusal) → refer n owner g (m (Refs g)) ≡ o → RefersPlainly w m answer o (got g m) → EntersAsPlain n l owner p (take_reference n owner g p) m (told_word w) (demands.Read g) answer
    reads answer (Some x) is a =
        subst (λ r. EntersAsPlain n l owner p (take_reference n owner g p) m (told_word w) (demands.Read g) r) (sym a.0)
        (refused_as n l owner p (take_reference n owner g p) m (told_word w) (demands.Read g) x (refused_same x is, refused_left x is a.1))
    reads answer None is a =
        subst (λ r. EntersAsPlain n l owner p (take_reference n owner g p) m (told_word w) (demands.Read g) r) (sym a.0)
        (λ ready. (fine_there is, described_leaves n w (got g m) (take_reference n owner g p).left a.1 (same_taken n m p owner g d machine is)))

    module _ (is : refer n owner g (m (Refs g)) ≡ None) where
      -- with the reference taken
      lent : Plain
      lent = (take_reference n owner g p).left

      taken_as : Describes n (got g m) lent
      unfolding lent
      taken_as = same_taken n m p owner g d machine is

      in_range : g < n.frames
      in_range = ((lends n owner g p).lent (fine_there is)).0

      share : Share
      share = ((lends n owner g p).lent (fine_there is)).1.0

      shared : lent.shares g ≡ Some share
      unfolding lent share
      shared = ((lends n owner g p).lent (fine_there is)).1.1

      given_again : Leaves w (put g (got g m)) → Describes n (told_word w) (reference_back g lent)
      given_again leaves = described_leaves n w (put g (got g m)) (reference_back g lent) leaves (same_back n (got g m) lent g share taken_as in_range shared)

      -- the type is refused, and the reference given back
      stopped : (x : Refusal) → (type_stop g (level_type l) (m (Kind g)) ≡ Some (Refused x)) × Leaves w (put g (got g m)) → IsSameAnswer (Some x) (take_at l n owner g lent).refusal × Describes n (told_word w) (take_at l n owner g lent).left
      stopped x a =
          let r = refused_plain n (got g m) lent l owner g x taken_as in_range a.0 in
          subst (λ (o : PlainOutcome). IsSameAnswer (Some x) o.refusal × Describes n (told_word w) o.left) (sym r.takes) (r.same, given_again a.1)

      -- or it is not taken in this turn
      busy : (h word : ℕ) → (type_stop g (level_type l) (m (Kind g)) ≡ Some (Paused (pauses.Busy h word))) × Leaves w (put g (got g m)) → EntersAsPlain n l owner p (take_at l n owner g lent) m (told_word w) (demands.Typed g (level_type l)) (Err (Paused (pauses.Busy h word)))
      unfolding lent
      busy h word a =
          let says = busy_says g h word (m (Kind g)) (level_type l) a.0 in
          (fine_there is, (says.0, says.1, says.2, given_again a.1))

      types_plain : (answer : Result Entered Stop) → TypesPlainly w (got g m) g (level_type l) answer → EntersAsPlain n l owner p (take_at l n owner g lent) m (told_word w) (demands.Typed g (level_type l)) answer
      unfolding lent
      types_plain (Ok Recorded) a =
          λ ready.
          let t = taken_plain n (got g m) (told_word w) lent l owner g types.Counted machine taken_as in_range ready a.0.0 a.0.1 a.1 in
          subst (λ (o : PlainOutcome). (o.refusal ≡ None) × Describes n (told_word w) o.left) (sym t.takes) (refl, t.describes)
      types_plain (Ok (Opened h progress own)) a =
          (fine_there is, (a.0, λ ready. taken_plain n (got g m) (told_word w) lent l owner g (types.InWork progress own) machine taken_as in_range ready a.1.0 a.1.1 a.2))
      types_plain (Ok (Unsettled stop)) a = (fine_there is, (a.0, a.1, λ ready. partial_again n (got g m) (told_word w) lent l g taken_as in_range ready a.0 a.3))
      types_plain (Err (Refused (refusals.Clock x))) a = (fine_there is, (a.0, λ ready. given_back n (got g m) w lent l g taken_as in_range share shared ready a.0 a.1))
      types_plain (Err (Refused _)) a = stopped _ a
      types_plain (Err (Paused (pauses.Flush u y x))) a = (fine_there is, (a.0, a.1, shared_again n (got g m) (told_word w) lent l g taken_as in_range share shared a.2))
      types_plain (Err (Paused (pauses.Busy h word))) a = busy h word a
      types_plain (Err (Paused x)) a = absurd (only_busy g (m (Kind g)) (level_type l) x a.0)

    typed : (answer : Result Entered Stop) (o : Option Refusal) → refer n owner g (m (Refs g)) ≡ o → TypedPlainly w m g (level_type l) answer o →
        EntersAsPlain n l owner p (go_on (take_reference n owner g p).refusal (take_reference n owner g p).left (take_at l n owner g)) m (told_word w) (demands.Typed g (level_type l)) answer
    unfolding lent
    typed answer (Some x) is a =
        let q = (take_reference n owner g p).left in
        let c = some_cause x (take_reference n owner g p).refusal (refused_same x is) in
        subst (λ r. EntersAsPlain n l owner p (go_on r q (take_at l n owner g)) m (told_word w) (demands.Typed g (level_type l)) answer) (sym c.1)
        (subst (λ r. EntersAsPlain n l owner p (refused c.0 q) m (told_word w) (demands.Typed g (level_type l)) r) (sym a.0)
        (refused_as n l owner p (refused c.0 q) m (told_word w) (demands.Typed g (level_type l)) x (subst (λ r. IsSameAnswer (Some x) r) c.1 (refused_same x is), refused_left x is a.1)))
    typed answer None is a =
        let q = (take_reference n owner g p).left in
        subst (λ r. EntersAsPlain n l owner p (go_on r q (take_at l n owner g)) m (told_word w) (demands.Typed g (level_type l)) answer) (sym (fine_there is)) (types_plain is answer a)

  module _ (inside : f < n.frames) (few : i < 512) where
    enters : (e : Demand) (answer : Result Entered Stop) → ((g : ℕ) (t : PageType) → e ≡ demands.Typed g t → t ≡ level_type l) → EntersPlainly n w m f i owner answer e →
        EntersAsPlain n l owner p (meet n owner (take_at l n owner) f i p e) m (told_word w) e answer
    enters demands.Nothing answer asks a = subst (λ r. EntersAsPlain n l owner p (fine p) m (told_word w) demands.Nothing r) (sym a.0) (λ ready. (refl, described_leaves n w m p a.1 d))
    enters demands.Bad answer asks a =
        subst (λ r. EntersAsPlain n l owner p (meet n owner (take_at l n owner) f i p demands.Bad) m (told_word w) demands.Bad r) (sym a.0) ((refl, refl, sym (d.cells f i inside few)), described_leaves n w m p a.1 d)
    enters (demands.Read g) answer asks a = reads g answer (refer n owner g (m (Refs g))) refl a
    enters (demands.Typed g t) answer asks a =
        subst (λ u. EntersAsPlain n l owner p (meet n owner (take_at l n owner) f i p (demands.Typed g u)) m (told_word w) (demands.Typed g u) answer) (sym (asks g t refl))
        (typed g answer (refer n owner g (m (Refs g))) refl (subst (λ u. TypedPlainly w m g u answer (refer n owner g (m (Refs g)))) (asks g t refl) a))

pub enters_plain : (v w : PortValue) (p : Plain) (f i l owner : ℕ) (answer : Result Entered Stop) → IsMachine v.post.machine → Describes v.post.machine (told_word v) p → f < v.post.machine.frames → i < 512 → l ≤ 3 → is_telling v ≡ true →
    TwinEntry v w f (level_type (suc l)) i owner answer →
    EntersAsPlain v.post.machine l owner p (meet v.post.machine owner (take_at l v.post.machine owner) f i p (entry_of p (level_type (suc l)) f i)) (told_word v) (told_word w) (demand_at (level_type (suc l)) i (told_word v (Cell f i))) answer
enters_plain v w p f i l owner answer machine d inside few low telling twin =
    let n = v.post.machine in
    let t = level_type (suc l) in
    let word = told_word v (Cell f i) in
    subst (λ y. EntersAsPlain n l owner p (meet n owner (take_at l n owner) f i p (demand_at t i y)) (told_word v) (told_word w) (demand_at t i word) answer) (sym (d.cells f i inside few))
    (enters n w (told_word v) p f i l owner machine d inside few (demand_at t i word) answer (λ g u is. asks_at l i word g u low is) (twin telling))
