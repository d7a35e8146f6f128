-- The answers of a gate in a row.
use Rattle.std.proofs.Common.{◌≡◌, ℕ, ◌+◌, ◌++◌, ◌==◌, if◌then◌else◌, Bool, true, false, List, [], ◌∷◌, length, refl, sym, ap, ◌∙◌, subst, arith}
use Rattle.xp_preempt.specs.Gates.{Gated, GatedPast, Consulted, Gate, GivesAnswers, IsCalm, answer_at, asks_on, ends_yes, last_ask, next_ask, one_more_if, yeses}

-- nothing was asked
pub consulted_none : (g : Gate) → Consulted g g []
unfolding GivesAnswers asks_on yeses
consulted_none g = record { gives = tt; asks = refl; yes = omega arith; says = λ n. refl; paces = refl }

-- one ask
pub consulted_ask : (g h : Gate) (due : Bool) → due ≡ answer_at g.says g.asks → h.asks ≡ next_ask g.asks → h.yes ≡ one_more_if due g.yes → ((n : ℕ) → h.says n ≡ g.says n) → h.paces ≡ g.paces → Consulted g h (due ∷ [])
unfolding GivesAnswers asks_on yeses
consulted_ask g h due is on rose same paces = record { gives = (is, tt); asks = on; yes = rose ∙ one_yes due g.yes; says = same; paces = paces }
  where
    one_yes : (d : Bool) (n : ℕ) → one_more_if d n ≡ one_more_if d 0 + n
    one_yes true n = omega arith
    one_yes false n = omega arith

-- ---- one piece behind another
-- the counts
pub asks_then : (xs ys : List Bool) (asks : ℕ) → asks_on (length ys) (asks_on (length xs) asks) ≡ asks_on (length (ys ++ xs)) asks
unfolding asks_on
asks_then xs [] asks = refl
asks_then xs (y ∷ ys) asks = ap (λ (n : ℕ). next_ask n) (asks_then xs ys asks)

pub yeses_then : (xs ys : List Bool) → yeses (ys ++ xs) ≡ yeses ys + yeses xs
unfolding yeses
yeses_then xs [] = omega arith
yeses_then xs (true ∷ ys) = let more = yeses_then xs ys in omega (arith, more)
yeses_then xs (false ∷ ys) = yeses_then xs ys

-- of a gate that says the same
gives_then : (new old : ℕ → Bool) (asks : ℕ) → ((n : ℕ) → new n ≡ old n) → (xs ys : List Bool) → GivesAnswers old asks xs → GivesAnswers new (asks_on (length xs) asks) ys → GivesAnswers old asks (ys ++ xs)
unfolding GivesAnswers
gives_then new old asks same xs [] first next = first
gives_then new old asks same xs (y ∷ ys) first next =
    (next.0 ∙ same_answer (asks_on (length ys) (asks_on (length xs) asks)) ∙ ap (λ (n : ℕ). answer_at old n) (asks_then xs ys asks), gives_then new old asks same xs ys first next.1)
  where
    same_answer : (n : ℕ) → answer_at new n ≡ answer_at old n
    same_answer n = ap (λ (b : Bool). if n == last_ask then false else b) (same (n + 1))

pub consulted_then : {g h k : Gate} {xs ys : List Bool} → Consulted g h xs → Consulted h k ys → Consulted g k (ys ++ xs)
consulted_then {g} {h} {k} {xs} {ys} first next =
    let few = first.yes in
    let more = next.yes in
    let both = yeses_then xs ys in
    record {
      gives = gives_then h.says g.says g.asks first.says xs ys first.gives (subst (λ (n : ℕ). GivesAnswers h.says n ys) first.asks next.gives);
      asks = next.asks ∙ ap (λ (n : ℕ). asks_on (length ys) n) first.asks ∙ asks_then xs ys g.asks;
      yes = omega (arith, few, more, both);
      says = λ n. next.says n ∙ first.says n;
      paces = next.paces ∙ first.paces;
    }

-- ---- a call that is paused for its gate exactly where that said yes last
-- it asked nothing
pub gated_none : {g : Gate} {paused : Bool} {P : List Bool → Type 0} → paused ≡ false → P [] → Gated g g paused P
gated_none {g} off goes = record { answers = []; course = goes; gate = consulted_none g; due = off }

module _ {g h : Gate} {P : List Bool → Type 0} where
  -- its answer is made of that of another call
  pub gated_as : {early paused : Bool} {Q : List Bool → Type 0} → paused ≡ early → ((xs : List Bool) → P xs → Q xs) → Gated g h early P → Gated g h paused Q
  gated_as same on a = record { answers = a.answers; course = on a.answers a.course; gate = a.gate; due = same ∙ a.due }

  -- so it may be said of one that may go on
  pub gated_past : {paused : Bool} → Gated g h paused P → GatedPast g h paused P
  gated_past a = record { answers = a.answers; course = a.course; gate = a.gate; due = λ on. sym a.due ∙ on }

-- one call behind another, which is not paused
ends_same : (early paused : Bool) (xs ys : List Bool) → early ≡ false → early ≡ ends_yes xs → paused ≡ ends_yes ys → paused ≡ ends_yes (ys ++ xs)
ends_same early paused xs [] off first next = next ∙ sym off ∙ first
ends_same early paused xs (y ∷ ys) off first next = next

pub gated_then : {g h k : Gate} {early paused : Bool} {P Q R : List Bool → Type 0} → early ≡ false → ((xs ys : List Bool) → P xs → Q ys → R (ys ++ xs)) → Gated g h early P → Gated h k paused Q → Gated g k paused R
gated_then {early = early} {paused} off both a b =
    record { answers = b.answers ++ a.answers; course = both a.answers b.answers a.course b.course; gate = consulted_then a.gate b.gate; due = ends_same early paused a.answers b.answers off a.due b.due }

-- one ask, alone; and behind what was asked before, which is not paused
pub gated_one : {g h : Gate} {due : Bool} {P : List Bool → Type 0} → Consulted g h (due ∷ []) → P (due ∷ []) → Gated g h due P
gated_one {due} asked goes = record { answers = due ∷ []; course = goes; gate = asked; due = refl }

pub gated_ask : {g h k : Gate} {early due : Bool} {P Q : List Bool → Type 0} → ((xs : List Bool) → P xs → Q (due ∷ xs)) → Gated g h early P → Consulted h k (due ∷ []) → Gated g k due Q
gated_ask {due = due} on a asked = record { answers = due ∷ a.answers; course = on a.answers a.course; gate = consulted_then a.gate asked; due = refl }

-- ---- a call that may go on where the gate said yes
pub past_none : {g : Gate} {paused : Bool} {P : List Bool → Type 0} → paused ≡ false → P [] → GatedPast g g paused P
past_none {g} off goes = record { answers = []; course = goes; gate = consulted_none g; due = λ on. absurd cc }

pub past_as : {g h : Gate} {early paused : Bool} {P Q : List Bool → Type 0} → (paused ≡ true → early ≡ true) → ((xs : List Bool) → P xs → Q xs) → GatedPast g h early P → GatedPast g h paused Q
past_as same on a = record { answers = a.answers; course = on a.answers a.course; gate = a.gate; due = λ is. a.due (same is) }

pub ends_then : (xs ys : List Bool) → ends_yes ys ≡ true → ends_yes (ys ++ xs) ≡ true
ends_then xs [] on = absurd cc
ends_then xs (y ∷ ys) on = on

pub past_then : {g h k : Gate} {early paused : Bool} {P Q R : List Bool → Type 0} → ((xs ys : List Bool) → P xs → Q ys → R (ys ++ xs)) → GatedPast g h early P → GatedPast h k paused Q → GatedPast g k paused R
past_then both a b =
    record { answers = b.answers ++ a.answers; course = both a.answers b.answers a.course b.course; gate = consulted_then a.gate b.gate; due = λ on. ends_then a.answers b.answers (b.due on) }

pub past_ask : {g h k : Gate} {early due : Bool} {P Q : List Bool → Type 0} → ((xs : List Bool) → P xs → Q (due ∷ xs)) → GatedPast g h early P → Consulted h k (due ∷ []) → GatedPast g k due Q
past_ask {due = due} on a asked = record { answers = due ∷ a.answers; course = on a.answers a.course; gate = consulted_then a.gate asked; due = λ is. is }

-- ---- a calm gate
pub says_either : (t b : Bool) → b ≡ false → (if t then false else b) ≡ false
says_either true b off = refl
says_either false b off = off

-- it answers no
pub calm_answers_no : (g : Gate) → IsCalm g → (answers : List Bool) → GivesAnswers g.says g.asks answers → yeses answers ≡ 0
unfolding GivesAnswers yeses
calm_answers_no g calm [] gives = refl
calm_answers_no g calm (a ∷ rest) gives =
    let off : a ≡ false = gives.0 ∙ says_either (asks_on (length rest) g.asks == last_ask) (g.says (asks_on (length rest) g.asks + 1)) (calm (asks_on (length rest) g.asks + 1)) in
    ap (λ b. one_more_if b (yeses rest)) off ∙ calm_answers_no g calm rest gives.1

ends_some : (answers : List Bool) → yeses answers ≡ 0 → ends_yes answers ≡ false
unfolding yeses
ends_some [] none = refl
ends_some (true ∷ rest) none = absurd (let more : yeses rest + 1 ≡ 0 = none in omega (arith, more))
ends_some (false ∷ rest) none = refl

-- so no call is paused for it
pub calm_pauses_nothing : {g h : Gate} {paused : Bool} {P : List Bool → Type 0} → IsCalm g → GatedPast g h paused P → paused ≡ false
calm_pauses_nothing {g} {paused = true} calm a = let last = a.due refl in let none = ends_some a.answers (calm_answers_no g calm a.answers a.gate.gives) in absurd cc
calm_pauses_nothing {paused = false} calm a = refl
