-- A release that the gate pauses leaves less than a whole table of level 4, and a table in work.
use Rattle.std.proofs.Common.{◌≡◌, ℕ, zero, suc, ◌+◌, ◌-◌, ◌*◌, ◌<◌, ◌≤◌, Bool, true, false, List, [], ◌∷◌, Option, Some, None, Result, Ok, Err, refl, ap, ◌∙◌, subst, arith}
use Rattle.std.proofs.Math.Nat.{mul-le-mul_right}
use Rattle.std.proofs.lemmas.Bool.{and_parts}
use Rattle.std.proofs.lemmas.Bool.Decides.{nat_tests}
use Rattle.xp_words.specs.Entries.{below, demand_at}
use Rattle.xp_words.specs.KindWords.{kind_fields}
use Rattle.xp_words.specs.Machine.{Machine}
use Rattle.xp_words.specs.PageTypes.{is_table}
use Rattle.xp_words.specs.declared.entry.Demand.{Demand}
use Rattle.xp_words.specs.declared.entry.Demand.TheVariants as demands
use Rattle.xp_words.specs.declared.kind.PageType.{PageType}
use Rattle.xp_words.specs.declared.reply.Pause.TheVariants.{Due}
use Rattle.xp_words.specs.declared.reply.Stop.{Stop}
use Rattle.xp_words.specs.declared.reply.Stop.TheVariants.{Paused}
use Rattle.xp_board.specs.KindSteps.{Form, Live, Partial, InWork, Dead, form_of}
use Rattle.xp_board.specs.Told.{PortValue}
use Rattle.step_maker.specs.Visits.{Visit, Does}
use Rattle.level_release.specs.Course as course
use Rattle.level_release.specs.Course.{GaveEntry, Lowered, RanDown, is_asked_down, is_asked_within, is_less}
use Rattle.partial_state.specs.Levels.{level_type}
use Rattle.partial_state.specs.Weights.{entry_weight, weight}
use Rattle.partial_state.specs.declared.stack.TableWork.{TableWork}
use Rattle.partial_state.proofs.WeightFacts.{most}
use Rattle.table_entries.proofs.HandLists.{asks_below}
use Rattle.table_releases.proofs.Recording.{recorded_table}
use Rattle.table_releases.specs.Found.{ComesBy, FormBy, LiveBy, LowersTable, ReleasedBy, ReleasesBy, has_recorded}
use Rattle.table_releases.specs.declared.entries.Released.{Released}
use Rattle.table_releases.specs.declared.entries.Released.TheVariants.{Opened}
use Rattle.turn_measures.specs.Measures.{left_rank, most_left}

-- ---- an entry that opens a table is of a table of level 2 or more
module _ (n : Machine) (f i h recorded : ℕ) (closing : Bool) where
  abbrev answer : Result Released Stop
  answer = Ok (Opened h recorded closing)

  live_opens : (g : ℕ) (t : PageType) (table : Bool) (vs : List Visit) → LiveBy g t answer table vs → table ≡ true
  live_opens g t true vs by = refl
  live_opens g t false vs by = absurd (let no = by.0 in cc)

  comes_opens : (g : ℕ) (t : PageType) (x : ℕ) (has : Bool) (vs : List Visit) → ComesBy f i g t x answer has vs → has ≡ true
  comes_opens g t x true vs by = refl
  comes_opens g t x false vs by = absurd (let no = by.0 in cc)

  form_opens : (g : ℕ) (t : PageType) (x : ℕ) (o : Form) (vs : List Visit) → FormBy n f i g t x answer o vs → is_table t ≡ true
  form_opens g t x Live vs by = live_opens g t (is_table t) by.after by.next
  form_opens g t x Partial vs by = recorded_table t (kind_fields x) (comes_opens g t x (has_recorded t (kind_fields x)) by.after by.next)
  form_opens g t x InWork vs by = absurd (let no = by.0 in cc)
  form_opens g t x Dead vs by = absurd (let no = by.0 in cc)

  abbrev AskedTable : Demand → Type 0
  AskedTable d = (g : ℕ) × (t : PageType) × (d ≡ demands.Typed g t) × (is_table t ≡ true)

  demand_opens : (d : Demand) (vs : List Visit) → ReleasesBy n f i answer d vs → AskedTable d
  demand_opens demands.Nothing vs by = absurd (let no = by.0 in cc)
  demand_opens demands.Bad vs by = absurd (let no = by.0 in cc)
  demand_opens (demands.Read g) vs by = absurd (let no = by.0 in cc)
  demand_opens (demands.Typed g t) vs by = (g, t, refl, form_opens g t by.0 (form_of (kind_fields by.0)) by.1.after by.1.next)

  entry_opens : (t : PageType) (vs : List Visit) → ReleasedBy n f i t answer vs → is_table (below t) ≡ true
  entry_opens t vs by =
      let asks = demand_opens (demand_at t i by.0) by.1.after by.1.next in
      subst (λ k. is_table k ≡ true) (asks_below t i by.0 asks.0 asks.1 asks.2) asks.3

opens_high : (l : ℕ) → is_table (below (level_type l)) ≡ true → 2 ≤ l
opens_high zero is = absurd (cc)
opens_high (suc zero) is = absurd (cc)
opens_high (suc (suc l)) is = omega arith

gave_high : (v w : PortValue) (t : TableWork) (h recorded : ℕ) (closing : Bool) → GaveEntry v w t (Ok (Opened h recorded closing)) → 2 ≤ t.level
unfolding Does
gave_high v w t h recorded closing gave = opens_high t.level (entry_opens v.post.machine t.frame (511 - t.done) h recorded closing (level_type t.level) _ gave.entry.found.2)

-- ---- weights
abbrev pub AreLow : List TableWork → Type 0
AreLow [] = Unit {0}
AreLow (t ∷ ts) = (t.level ≤ 4) × AreLow ts

-- a table below, and nothing of the entry that named it
under_fills : (l : ℕ) → 2 ≤ l → l ≤ 4 → 1 + 512 * entry_weight (l - 1) ≤ entry_weight l
under_fills zero b c = absurd (omega arith)
under_fills (suc zero) b c = absurd (omega arith)
under_fills (suc (suc zero)) b c = omega arith
under_fills (suc (suc (suc zero))) b c = omega arith
under_fills (suc (suc (suc (suc zero)))) b c = omega arith
under_fills (suc (suc (suc (suc (suc l))))) b c = absurd (omega arith)

one_less : (d w : ℕ) → d < 512 → (512 - d) * w ≡ (512 - (d + 1)) * w + w
one_less d w b =
    let k = 512 - (d + 1) in
    let s : 512 - d ≡ k + 1 = omega arith in
    let r : (k + 1) * w ≡ k * w + w = omega arith in
    ap (λ n. n * w) s ∙ r

lowered_falls : (v : PortValue) (ts : List TableWork) (w : PortValue) (us : List TableWork) (answer : Result Bool Stop) (done : Bool) → answer ≡ Ok done → Lowered v ts w us answer → AreLow ts → (weight us ≤ weight ts) × AreLow us
lowered_falls _ _ _ _ _ done is (course.Lowered.given v w t ts some gave) low = (let e = one_less t.done (entry_weight t.level) some in omega (arith, e), low)
lowered_falls _ _ _ _ _ done is (course.Lowered.opened v w t ts f recorded closing some gave) low =
    let high = gave_high v w t f recorded closing gave in
    let e = one_less t.done (entry_weight t.level) some in
    let fills = under_fills t.level high low.0 in
    let m = most (512 - recorded) (entry_weight (t.level - 1)) in
    let four = low.0 in (omega (arith, e, fills, m), (omega (arith, four), low))
lowered_falls _ _ _ _ _ done is (course.Lowered.stopped v w t ts stop some gave) low = absurd (cc)
lowered_falls _ _ _ _ _ done is (course.Lowered.emptied v w t ts all dead) low = (omega arith, low.1)

entry_most : (l : ℕ) → entry_weight l ≤ 135796744
entry_most zero = omega arith
entry_most (suc zero) = omega arith
entry_most (suc (suc zero)) = omega arith
entry_most (suc (suc (suc zero))) = omega arith
entry_most (suc (suc (suc (suc l)))) = omega arith

pub one_most : (t : TableWork) → weight (t ∷ []) < most_left
one_most t =
    let e = entry_most t.level in
    let h : 512 - t.done ≤ 512 = omega arith in
    let m = mul-le-mul_right (entry_weight t.level) h in
    omega (arith, e, m)

-- ---- the whole course: paused for the gate it leaves tables, which weigh no more than those before it, and less than the bound
bound_falls : (below : Option ℕ) (k : ℕ) → k < most_left → is_less below k ≡ true → k < left_rank below
bound_falls None k few is = few
bound_falls (Some bound) k few is = grind (arith, nat_tests)

-- an entry ends for no gate
abbrev due_by : Result Released Stop
due_by = Err (Paused Due)

lowers_due : (g : ℕ) (last : Bool) (vs : List Visit) → LowersTable g due_by last vs → ⊥
lowers_due g true vs by = let no = by.0 in cc
lowers_due g false vs by = let no = by.0 in cc

live_due : (g : ℕ) (t : PageType) (table : Bool) (vs : List Visit) → LiveBy g t due_by table vs → ⊥
live_due g t true vs by = lowers_due g _ by.1.after by.1.next
live_due g t false vs by = let no = by.0 in cc

comes_due : (f i g : ℕ) (t : PageType) (x : ℕ) (has : Bool) (vs : List Visit) → ComesBy f i g t x due_by has vs → ⊥
comes_due f i g t x true vs by = let no = by.0 in cc
comes_due f i g t x false vs by = let no = by.0 in cc

form_due : (n : Machine) (f i g : ℕ) (t : PageType) (x : ℕ) (o : Form) (vs : List Visit) → FormBy n f i g t x due_by o vs → ⊥
form_due n f i g t x Live vs by = live_due g t (is_table t) by.after by.next
form_due n f i g t x Partial vs by = comes_due f i g t x (has_recorded t (kind_fields x)) by.after by.next
form_due n f i g t x InWork vs by = let no = by.0 in cc
form_due n f i g t x Dead vs by = let no = by.0 in cc

demand_due : (n : Machine) (f i : ℕ) (d : Demand) (vs : List Visit) → ReleasesBy n f i due_by d vs → ⊥
demand_due n f i demands.Nothing vs by = let no = by.0 in cc
demand_due n f i demands.Bad vs by = let no = by.0 in cc
demand_due n f i (demands.Read g) vs by = let no = by.0 in cc
demand_due n f i (demands.Typed g t) vs by = form_due n f i g t by.0 (form_of (kind_fields by.0)) by.1.after by.1.next

gave_due : (v w : PortValue) (t : TableWork) → GaveEntry v w t due_by → ⊥
unfolding Does
gave_due v w t gave = let by = gave.entry.found.2 in demand_due v.post.machine t.frame (511 - t.done) _ by.1.after by.1.next

pub lowered_due : (v : PortValue) (ts : List TableWork) (w : PortValue) (us : List TableWork) (answer : Result Bool Stop) → answer ≡ Err (Paused Due) → Lowered v ts w us answer → ⊥
lowered_due _ _ _ _ _ is (course.Lowered.given v w t ts some gave) = cc
lowered_due _ _ _ _ _ is (course.Lowered.opened v w t ts f recorded closing some gave) = cc
lowered_due _ _ _ _ _ is (course.Lowered.stopped v w t ts stop some gave) = gave_due v w t (subst (λ (e : Stop). GaveEntry v w t (Err e)) (let at : stop ≡ Paused Due = cc in at) gave)
lowered_due _ _ _ _ _ is (course.Lowered.emptied v w t ts all dead) = cc

ran_falls : (below : Option ℕ) (v : PortValue) (ts : List TableWork) (w : PortValue) (us : List TableWork) (answers : List Bool) (answer : Result (Unit {0}) Stop) → answer ≡ Ok tt → RanDown below v ts w us answers answer → AreLow ts →
    (weight us ≤ weight ts) × AreLow us
ran_falls below v ts _ _ _ _ ok course.RanDown.begun low = (omega arith, low)
ran_falls below v ts _ _ _ _ ok (course.RanDown.unasked u w us xs done answers ran one off) low =
    let first = ran_falls below v ts u us answers (Ok tt) refl ran low in
    let next = lowered_falls u us w xs (Ok done) done refl one first.1 in
    let a = first.0 in let b = next.0 in (omega (arith, a, b), next.1)
ran_falls below v ts _ _ _ _ ok (course.RanDown.asked u w us xs answers ran one on) low =
    let first = ran_falls below v ts u us answers (Ok tt) refl ran low in
    let next = lowered_falls u us w xs (Ok true) true refl one first.1 in
    let a = first.0 in let b = next.0 in (omega (arith, a, b), next.1)
ran_falls below v ts _ _ _ _ ok (course.RanDown.due u w us xs answers ran one on) low = absurd (cc)
ran_falls below v ts _ _ _ _ ok (course.RanDown.stopped u w us xs answers stop ran one) low = absurd (cc)

-- some table is in work
abbrev pub AreSome : List TableWork → Type 0
AreSome [] = ⊥
AreSome (t ∷ ts) = Unit {0}

asked_some : (ts : List TableWork) → is_asked_down ts ≡ true → AreSome ts
asked_some [] is = absurd (cc)
asked_some (t ∷ ts) is = tt

pub record PausedBelow (below : Option ℕ) (us : List TableWork) : Type 0 where
  pub few : weight us < most_left
  pub less : weight us < left_rank below
  pub some : AreSome us

asked_falls : (below : Option ℕ) (xs : List TableWork) → weight xs < most_left → is_asked_within below xs ≡ true → PausedBelow below xs
asked_falls below xs few on =
    let both = and_parts (is_asked_down xs) (is_less below (weight xs)) on in
    record { few = few; less = bound_falls below (weight xs) few both.1; some = asked_some xs both.0 }

pub ran_due : (below : Option ℕ) (v : PortValue) (ts : List TableWork) (w : PortValue) (us : List TableWork) (answers : List Bool) (answer : Result (Unit {0}) Stop) → answer ≡ Err (Paused Due) → RanDown below v ts w us answers answer →
    weight ts < most_left → AreLow ts → PausedBelow below us
ran_due below v ts _ _ _ _ is course.RanDown.begun few low = absurd (cc)
ran_due below v ts _ _ _ _ is (course.RanDown.unasked u w us xs done answers ran one off) few low = absurd (cc)
ran_due below v ts _ _ _ _ is (course.RanDown.asked u w us xs answers ran one on) few low = absurd (cc)
ran_due below v ts _ _ _ _ is (course.RanDown.due u w us xs answers ran one on) few low =
    let first = ran_falls below v ts u us answers (Ok tt) refl ran low in
    let next = lowered_falls u us w xs (Ok true) true refl one first.1 in
    let a = first.0 in let b = next.0 in
    asked_falls below xs (omega (arith, a, b, few)) on
ran_due below v ts _ _ _ _ is (course.RanDown.stopped u w us xs answers stop ran one) few low = absurd (lowered_due u us w xs (Err stop) (let at : stop ≡ Paused Due = cc in ap (λ (e : Stop). Err e) at) one)
