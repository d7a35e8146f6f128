-- The last recorded entry of the innermost table is looked at again, or the next one is taken: what that is of the course, by the answer.
use Rattle.std.proofs.Common.{◌≡◌, ℕ, ◌-◌, ◌<◌, Bool, true, false, List, ◌∷◌, Result, Ok, Err, sym, subst, arith, [], drop, refl, ◌≤◌, ap, ◌∙◌}
use Rattle.xp_words.specs.declared.kind.PageType.{PageType}
use Rattle.xp_words.specs.declared.reply.Stop.{Stop}
use Rattle.xp_board.specs.Told.{PortValue, Post}
use Rattle.step_maker.specs.Visits.{Does}
use Rattle.step_maker.proofs.Visiting.{does_came}
use Rattle.frame_types.specs.Found.{SharedBy}
use Rattle.partial_state.specs.Levels.{level_type}
use Rattle.partial_state.specs.declared.stack.TableWork.{TableWork}
use Rattle.table_entries.specs.Asking.{IsEntryStop}
use Rattle.table_entries.specs.Between.{TakesLast}
use Rattle.table_entries.specs.declared.resuming.Resumed.{Resumed}
use Rattle.table_entries.specs.Acquiring.{GaveBack, LeftWaiting, ResumedEntry, TookEntry, TookOn, table_opened}
use Rattle.step_maker.specs.Moves.{Came}
use Rattle.step_maker.proofs.Coming.{came_post}
use Rattle.table_entries.specs.Tops.{WorksAtTop}
use Rattle.level_validate.specs.Tables.{Carries, IsStanding, IsTopReady, StandsOn}
use Rattle.level_validate.proofs.Entered.{back_one, taken_gives, after_again, after_next}
use Rattle.level_validate.proofs.Opening.{FirstFound, entered_first, resumed_first, taken_found, wait_stops, waited_found, waits_there, again_found, opened_found}
use Rattle.step_maker.specs.Holds.{MayWork}
use Rattle.level_validate.specs.Giving.{MayGiveBack}
use Rattle.level_validate.specs.Serving.{CarriesOn}
use Rattle.level_validate.proofs.Serving.{goes_inner, goes_opened}
use Rattle.partial_state.proofs.LevelFacts.{level_type-under}
use Rattle.xp_words.specs.Entries.{below}
use Rattle.partial_state.specs.Stacks.{IsTable, advanced, left_on_top}
use Rattle.level_validate.proofs.Pushing.{pushed}
use Rattle.level_validate.proofs.Standing.{may_back, may_stands}
use Rattle.frame_types.specs.Leaving.{GivesBack, IsWaiting, ServesType}
use Rattle.table_entries.specs.declared.entries.Entered.{Entered}
use Rattle.table_entries.specs.declared.resuming.Resumed.TheVariants as again
use Rattle.table_entries.specs.declared.entries.Entered.TheVariants as entered

-- ---- the call that looks, for the type of the table's level
pub again_of : {v w : PortValue} {owner : ℕ} {t : TableWork} {k : PageType} {a b : Result Resumed Stop} → k ≡ level_type t.level → WorksAtTop t.frame (level_type t.level) t.done v.holdings → a ≡ b →
    TakesLast v w t.frame (t.done - 1) owner k a → ResumedEntry v w owner t b
again_of {v} {w} {owner} {t} {k} {a} {b} is top same e =
    let f = subst (λ (j : PageType). TakesLast v w t.frame (t.done - 1) owner j b) is (subst (λ r. TakesLast v w t.frame (t.done - 1) owner k r) same e) in
    record { top = top; found = f.found; plain = f.plain; serves = f.serves; stops = f.stops; shows = f.shows; hand = f.hand }

-- ---- from a stack of which that table is the top
module _ (owner : ℕ) (v : PortValue) {t : TableWork} {ts stack : List TableWork} (top : stack ≡ t ∷ ts) where
  -- the stack stays as it is
  stays : (w : PortValue) (answer : Result Bool Stop) → TookOn owner v (t ∷ ts) w (t ∷ ts) answer → TookOn owner v stack w stack answer
  stays w answer took = subst (λ (xs : List TableWork). TookOn owner v xs w xs answer) (sym top) took

  pub fresh_on : t.done ≡ 0 → TookOn owner v stack v stack (Ok false)
  fresh_on none = stays v (Ok false) (TookOn.fresh v t ts none)

  module _ (some : t.done ≡ 0 → ⊥) where
    least : 0 < t.done
    least = omega (arith, some)

    pub stopped_on : (w : PortValue) (answer : Result Bool Stop) (e : Stop) → answer ≡ Err e → ResumedEntry v w owner t (Err e) → TookOn owner v stack w stack answer
    stopped_on w answer e is again = subst (λ (r : Result Bool Stop). TookOn owner v stack w stack r) (sym is) (stays w (Err e) (TookOn.stopped v w t ts e least again))

    pub settled_on : (w : PortValue) → ResumedEntry v w owner t (Ok again.Settled) → TookOn owner v stack w stack (Ok false)
    settled_on w resumed = stays w (Ok false) (TookOn.settled v w t ts least resumed)

    pub taken_on : (u w : PortValue) (f : ℕ) → ResumedEntry v u owner t (Ok (again.Taken f)) → GaveBack u w f → TookOn owner v stack w stack (Ok true)
    taken_on u w f resumed back = stays w (Ok true) (TookOn.taken v u w t ts f least resumed back)

    -- the table that it names is on top then
    pub opened_on : (u w : PortValue) (f progress : ℕ) (answer : Result Bool Stop) (next us : List TableWork) → next ≡ table_opened t f progress false true ∷ stack → ResumedEntry v u owner t (Ok (again.Opened f progress)) →
        TookOn owner u next w us answer → TookOn owner v stack w us answer
    opened_on u w f progress answer next us pushed resumed took =
        subst (λ (xs : List TableWork). TookOn owner v xs w us answer) (sym top)
        (TookOn.opened v u w t ts us f progress answer least resumed
        (subst (λ (xs : List TableWork). TookOn owner u (table_opened t f progress false true ∷ xs) w us answer) top (subst (λ (xs : List TableWork). TookOn owner u xs w us answer) pushed took)))

    pub waiting_on : (u w : PortValue) (f stamp : ℕ) (e : Stop) → ResumedEntry v u owner t (Ok (again.Waiting f stamp e)) → LeftWaiting u w f (t.level - 1) stamp → TookOn owner v stack w stack (Err e)
    waiting_on u w f stamp e resumed left = stays w (Err e) (TookOn.waiting v u w t ts f stamp e least resumed left)

-- ---- a frame that waits for a flush is left, for the type of a level
pub shared_left : {v w : PortValue} {f level : ℕ} {k : PageType} → k ≡ level_type level → (stamp : ℕ) → Does v w (λ vs. SharedBy f k stamp vs) → ServesType v w f k → GivesBack v w f k false → LeftWaiting v w f level stamp
shared_left {v} {w} {f} {level} is stamp does serves hand =
    let b = subst (λ (j : PageType). Does v w (λ vs. SharedBy f j stamp vs) × ServesType v w f j × GivesBack v w f j false) is (does, serves, hand) in record { found = b.0; serves = b.1; hand = b.2 }

-- The last recorded entry of the innermost table is looked at again: how the tables stand then, and that the steps go on.
module _ {u x : PortValue} {owner : ℕ} {t : TableWork} {a : Result Resumed Stop} (said : ResumedEntry u x owner t a) where
  pub again_came : Came u x
  again_came = does_came u x _ said.found

  pub again_first : FirstFound u
  again_first = resumed_first u x t.frame (t.done - 1) (level_type t.level) owner a said.found

-- its frame was live: the type count that was taken is to be given back
module _ {u x : PortValue} {owner : ℕ} {t : TableWork} {f : ℕ} (said : ResumedEntry u x owner t (Ok (again.Taken f))) where
  pub took_inside : f < x.post.machine.frames
  took_inside = subst (λ (p : Post). f < p.machine.frames) (sym (came_post u x (again_came said))) (taken_found u x t.frame (t.done - 1) (level_type t.level) owner f said.found)

  pub took_gives : {stack : List TableWork} → stack ≡ t ∷ drop 1 stack → (t.done ≡ 0 → ⊥) → IsStanding u owner stack → MayGiveBack x.post.machine x.post.vcpu f x.holdings
  took_gives top some a = taken_gives (subst (λ xs. Carries a.0 u owner xs) top a.1) (again_came said) (again_first said) (back_one t.done some) said.hand.0

-- The last recorded entry of the innermost table is looked at again, and names a table that was left unfinished: that one is on top then.
-- the table has a level, and the tables that its entries name have the next one
module _ {u : PortValue} {owner : ℕ} {t : TableWork} {stack : List TableWork} (top : stack ≡ t ∷ drop 1 stack) (a : IsStanding u owner stack) where
  pub top_low : 1 ≤ t.level
  top_low = (subst (λ xs. Carries a.0 u owner xs) top a.1).stack.0.low

  pub below_is : below (level_type t.level) ≡ level_type (t.level - 1)
  below_is = let s = subst (λ xs. Carries a.0 u owner xs) top a.1 in level_type-under t.level s.stack.0.low s.stack.0.high

-- ---- the steps go on with that one
pub record OnTop (u x : PortValue) (owner : ℕ) (stack next : List TableWork) (inner : TableWork) : Type 0 where
  pub top : next ≡ inner ∷ drop 1 next
  pub stands : StandsOn u x owner stack next
  pub serves : CarriesOn u x owner stack next []

module _ {u x : PortValue} {owner : ℕ} {stack next : List TableWork} {inner : TableWork} (o : OnTop u x owner stack next inner) where
  pub opened_standing : IsStanding u owner stack → IsStanding x owner next
  opened_standing a = (a.0, o.stands a.0 a.1)

  pub opened_table : IsStanding u owner stack → IsTable inner
  opened_table a = (subst (λ xs. Carries a.0 x owner xs) o.top (o.stands a.0 a.1)).stack.0

  pub opened_may : IsStanding u owner stack → MayWork u → MayWork x
  opened_may a may = may_stands a.0 x owner next (o.stands a.0 a.1) (may_back a.0 u owner stack a.1 may)

-- the last recorded entry names it
pub again_on_top : {u x : PortValue} {owner : ℕ} {t : TableWork} {stack next : List TableWork} {f progress : ℕ} → stack ≡ t ∷ drop 1 stack → (t.done ≡ 0 → ⊥) → ResumedEntry u x owner t (Ok (again.Opened f progress)) → next ≡ pushed t f progress false true ∷ stack →
    IsStanding u owner stack → OnTop u x owner stack next (pushed t f progress false true)
again_on_top {u} {x} {owner} {t} {stack} {next} {f} {progress} top some said is a =
    let inner = pushed t f progress false true in
    record {
      top = is ∙ ap (λ ys. inner ∷ ys) (sym (ap (λ ys. drop 1 ys) is));
      stands = λ v s. subst (λ xs. Carries v x owner xs) (sym (is ∙ ap (λ ys. inner ∷ ys) top))
          (after_again x (subst (λ xs. Carries v u owner xs) top s) (again_came said) (again_first said) (t.done - 1) f progress
          (back_one t.done some) (again_found u x t.frame (t.done - 1) (level_type t.level) owner f progress said.found) said.hand);
      serves = subst (λ xs. CarriesOn u x owner stack xs []) (sym is) (goes_opened u x owner stack (level_type t.level) f said.serves said.shows inner refl (below_is top a));
    }

-- the next one names it, and is done with
module _ {u x : PortValue} {owner : ℕ} {t : TableWork} {a : Result Entered Stop} (said : TookEntry u x owner t a) where
  pub next_came : Came u x
  next_came = does_came u x _ said.found

  pub next_first : FirstFound u
  next_first = entered_first u x t.frame t.done (level_type t.level) owner a said.found

pub next_on_top : {u x : PortValue} {owner : ℕ} {t : TableWork} {stack more next : List TableWork} {f progress : ℕ} {own : Bool} → stack ≡ t ∷ drop 1 stack → 0 < left_on_top stack → TookEntry u x owner t (Ok (entered.Opened f progress own)) → IsTopReady u →
    more ≡ advanced stack → next ≡ pushed t f progress own false ∷ more → IsStanding u owner stack → OnTop u x owner stack next (pushed t f progress own false)
next_on_top {u} {x} {owner} {t} {stack} {more} {next} {f} {progress} {own} top left said ready is on a =
    let inner = pushed t f progress own false in
    let room : 0 < 512 - t.done = subst (λ xs. 0 < left_on_top xs) top left in
    record {
      top = on ∙ ap (λ ys. inner ∷ ys) (sym (ap (λ ys. drop 1 ys) on));
      stands = λ v s. subst (λ xs. Carries v x owner xs) (sym (on ∙ ap (λ ys. inner ∷ ys) (is ∙ ap advanced top)))
          (after_next x (subst (λ xs. Carries v u owner xs) top s) (next_came said) (next_first said) f progress own (omega (arith, room)) ready
          (opened_found u x t.frame t.done (level_type t.level) owner f progress own said.found) said.hand);
      serves = subst (λ xs. CarriesOn u x owner stack xs []) (sym (on ∙ ap (λ ys. inner ∷ ys) is))
          (goes_inner u x owner stack inner stack [] (goes_opened u x owner stack (level_type t.level) f said.serves said.shows inner refl (below_is top a)));
    }

-- Its frame waits for a flush that is not to be had.
module _ {u x : PortValue} {owner : ℕ} {t : TableWork} {f stamp : ℕ} {stop : Stop} (said : ResumedEntry u x owner t (Ok (again.Waiting f stamp stop))) where
  pub waited_inside : f < x.post.machine.frames
  waited_inside = subst (λ (p : Post). f < p.machine.frames) (sym (came_post u x (again_came said))) (waited_found u x t.frame (t.done - 1) (level_type t.level) owner f stamp stop said.found)

  pub waited_kinds : IsEntryStop stop
  waited_kinds = wait_stops stop (said.shows 0).1

  pub waited_waits : {stack : List TableWork} {k : PageType} → stack ≡ t ∷ drop 1 stack → IsStanding u owner stack → k ≡ level_type (t.level - 1) → IsWaiting x f k false stamp
  waited_waits {k = k} top a kind = waits_there (t.level - 1) (below_is top a) said.hand.0 k stamp kind said.hand.1
