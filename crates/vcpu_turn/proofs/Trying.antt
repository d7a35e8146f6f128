-- The items that a list tried in a turn: how often the gate was asked between them and within them, and that it said no until the list was paused.
use Rattle.std.proofs.Common.{◌≡◌, ℕ, suc, ◌+◌, Bool, false, List, [], ◌∷◌, ◌++◌, All, Any, length, Result, Ok, Err, refl, ap, arith, length-append}
use Rattle.std.proofs.lemmas.List.Elements.{All-cons, All-head, All-nil, All-tail, All-weaker}
use Rattle.std.proofs.lemmas.List.Sums.{sum_by-cons}
use Rattle.xp_words.specs.declared.reply.Stop.{Stop}
use Rattle.xp_board.specs.Told.{PortValue}
use Rattle.xp_preempt.specs.Gates.{yeses}
use Rattle.level_release.specs.Asking.{is_due_stop}
use Rattle.vcpu_turn.specs.Asking.{AsksNothingWithin, HearsNo, HearsNoWithin, NoUntilDue, asks_within}
use Rattle.vcpu_turn.specs.Lists.{Tried, did_in, tried, tried_in, DidItems, Fitting, WorksOn, none, more, all_done, last_done, due, stopped, asks_between, is_due_answer}
use Rattle.vcpu_turn.proofs.Listing.{did_on}
use Rattle.vcpu_turn.proofs.Noes.{noes_due, noes_no, noes_none, noes_same, noes_then}

-- one item more
pub within_more : (t : Tried) (items : List Tried) → asks_within (t ∷ items) ≡ length t.asked + asks_within items
within_more t items = sum_by-cons (λ (x : Tried). length x.asked) t items

pub within_none : (items : List Tried) → AsksNothingWithin items → asks_within items ≡ 0
within_none [] quiet = refl
within_none (t ∷ items) quiet =
    let now = ap (λ (xs : List Bool). length xs) (All-head (λ (x : Tried). x.asked ≡ []) t items quiet) in
    let before = within_none items (All-tail (λ (x : Tried). x.asked ≡ []) t items quiet) in
    let all = within_more t items in
    omega (arith, now, before, all)

-- where nothing is asked, nothing is said
pub hears_nothing : (items : List Tried) → AsksNothingWithin items → HearsNoWithin items
hears_nothing items quiet = All-weaker (λ (t : Tried). t.asked ≡ []) HearsNo (λ t is. noes_same t.asked [] (is_due_answer t.answer) is (noes_none (is_due_answer t.answer))) items quiet

-- one of them
module _ {X : Type 0} (P : X → Type 0) (x : X) (xs : List X) where
  pub any_now : P x → Any P (x ∷ xs)
  any_now p = (0, x, omega arith, refl, p)

  pub any_later : Any P xs → Any P (x ∷ xs)
  any_later a = let less = a.2 in (suc a.0, a.1, omega (arith, less), a.3, a.4)

module _ {fits : Fitting} {count from : ℕ} {v : PortValue} where
  -- ---- what holds of each step holds of each item
  module _ (P : Tried → Type 0) (each : (k : ℕ) (u w : PortValue) (asked : List Bool) (answer : Result (Unit {0}) Stop) → fits k u w asked answer → P (tried k u w asked answer)) where
    did_each : {to : ℕ} {w : PortValue} {answers : List Bool} → (did : DidItems fits count from v to w answers) → All P (did_in did)
    did_each none = All-nil P
    did_each (more k u w answers asked did fit less) = All-cons P (tried k u w asked (Ok tt)) (did_in did) (each k u w asked (Ok tt) fit) (did_each did)

    pub tried_each : {to : ℕ} {w : PortValue} {answers : List Bool} {answer : Result (Unit {0}) Stop} → (works : WorksOn fits count from v to w answers answer) → All P (tried_in works)
    tried_each (all_done at) = All-nil P
    tried_each (last_done k u w answers asked did fit at) = All-cons P (tried k u w asked (Ok tt)) (did_in did) (each k u w asked (Ok tt) fit) (did_each did)
    tried_each (due k u w answers asked did fit less) = All-cons P (tried k u w asked (Ok tt)) (did_in did) (each k u w asked (Ok tt) fit) (did_each did)
    tried_each (stopped k u w answers asked e did fit less) = All-cons P (tried k u w asked (Err e)) (did_in did) (each k u w asked (Err e) fit) (did_each did)

  -- ---- how often
  did_asks : {to : ℕ} {w : PortValue} {answers : List Bool} → (did : DidItems fits count from v to w answers) → length answers + from ≡ to + asks_within (did_in did)
  did_asks none = omega arith
  did_asks (more k u w answers asked did fit less) =
      let before = did_asks did in
      let all = within_more (tried k u w asked (Ok tt)) (did_in did) in
      let sum = length-append asked answers in
      omega (arith, before, all, sum)

  pub works_asks : {to : ℕ} {w : PortValue} {answers : List Bool} {answer : Result (Unit {0}) Stop} → (works : WorksOn fits count from v to w answers answer) →
      length answers ≡ asks_between from to answer + asks_within (tried_in works)
  works_asks (all_done at) = omega arith
  works_asks (last_done k u w answers asked did fit at) =
      let before = did_asks did in
      let on = did_on fits count from v k u answers did in
      let all = within_more (tried k u w asked (Ok tt)) (did_in did) in
      let sum = length-append asked answers in
      omega (arith, before, on, all, sum)
  works_asks (due k u w answers asked did fit less) =
      let before = did_asks did in
      let on = did_on fits count from v k u answers did in
      let all = within_more (tried k u w asked (Ok tt)) (did_in did) in
      let sum = length-append asked answers in
      omega (arith, before, on, all, sum)
  works_asks (stopped k u w answers asked e did fit less) =
      let before = did_asks did in
      let on = did_on fits count from v k u answers did in
      let all = within_more (tried k u w asked (Err e)) (did_in did) in
      let sum = length-append asked answers in
      omega (arith, before, on, all, sum)

  -- ---- the yes
  did_hears : {to : ℕ} {w : PortValue} {answers : List Bool} → (did : DidItems fits count from v to w answers) → HearsNoWithin (did_in did) → yeses answers ≡ 0
  unfolding yeses
  did_hears none hears = refl
  did_hears (more k u w answers asked did fit less) hears =
      let early = did_hears did (All-tail HearsNo (tried k u w asked (Ok tt)) (did_in did) hears) in
      noes_no (asked ++ answers) (noes_then answers asked false early (All-head HearsNo (tried k u w asked (Ok tt)) (did_in did) hears))

  pub works_hears : {to : ℕ} {w : PortValue} {answers : List Bool} {answer : Result (Unit {0}) Stop} → (works : WorksOn fits count from v to w answers answer) → HearsNoWithin (tried_in works) → NoUntilDue answers (is_due_answer answer)
  works_hears (all_done at) hears = noes_none false
  works_hears (last_done k u w answers asked did fit at) hears =
      noes_then answers asked false (did_hears did (All-tail HearsNo (tried k u w asked (Ok tt)) (did_in did) hears)) (All-head HearsNo (tried k u w asked (Ok tt)) (did_in did) hears)
  works_hears (due k u w answers asked did fit less) hears =
      let early = did_hears did (All-tail HearsNo (tried k u w asked (Ok tt)) (did_in did) hears) in
      noes_due (asked ++ answers) (noes_no (asked ++ answers) (noes_then answers asked false early (All-head HearsNo (tried k u w asked (Ok tt)) (did_in did) hears)))
  works_hears (stopped k u w answers asked e did fit less) hears =
      noes_then answers asked (is_due_stop e) (did_hears did (All-tail HearsNo (tried k u w asked (Err e)) (did_in did) hears)) (All-head HearsNo (tried k u w asked (Err e)) (did_in did) hears)
