-- An update by address makes few steps: four loads, what finds the table out, and an exchange at level 1.
use Rattle.std.proofs.Common.{◌≡◌, ℕ, ◌+◌, ◌*◌, ◌-◌, ◌<◌, ◌≤◌, Bool, false, List, ◌∷◌, ◌++◌, length, Result, Ok, Err, refl, ap, ◌∙◌, subst, sym, arith}
use Rattle.xp_words.specs.Entries.{frame_of}
use Rattle.xp_words.specs.Machine.{IsMachine, Machine}
use Rattle.xp_words.specs.Places.{Sizes, sizes_of}
use Rattle.xp_words.specs.declared.reply.Pause.TheVariants as pauses
use Rattle.xp_words.specs.declared.reply.Stop.{Stop}
use Rattle.xp_words.specs.declared.reply.Stop.TheVariants.{Paused}
use Rattle.xp_board.specs.Told.{Post, PortValue}
use Rattle.step_maker.specs.Visits.{Only, Then, Visit}
use Rattle.entry_exchange.proofs.Lengths.{Short}
use Rattle.entry_exchange.proofs.Steps.{Adds, exchange_short, adds_more, adds_then, does_adds, gave_ref, got_ref, left_lock, moves_adds}
use Rattle.entry_locks.specs.Found.{LocksBy}
use Rattle.entry_locks.specs.declared.locking.Locked.{Locked}
use Rattle.entry_locks.specs.declared.locking.Locked.TheVariants.{Table, Other}
use Rattle.foreign_map.specs.declared.owners.Owners.{Owners}
use Rattle.mmu_update.specs.Addresses as ways
use Rattle.mmu_update.specs.Addresses.{Descends, EnteredAt, Leads, UpdatedAt}
use Rattle.mmu_update.specs.Course.{TriedLock, entry_update}
use Rattle.tlb_walks.specs.Addresses.{index_of}

-- ---- single calls

one_length : (a : Visit) (vs : List Visit) → Only a vs → length vs ≤ 2
one_length a vs only = let one : length vs ≡ 1 = ap (λ xs. length xs) only in omega (arith, one)

two_length : (a b : Visit) (vs : List Visit) → Then (Only a) (Only b) vs → length vs ≤ 2
two_length a b vs both =
    let two : length vs ≡ 2 = ap (λ xs. length xs) (both.list ∙ ap (λ xs. xs ++ both.before) both.next ∙ ap (λ xs. b ∷ xs) both.first) in omega (arith, two)

lock_short : (z : Sizes) (n : Machine) (f : ℕ) (answer : Result Locked Stop) → Short z (λ vs. LocksBy n f answer vs) 2
lock_short z n f (Ok (Table level x)) vs there by = two_length _ _ vs by.2
lock_short z n f (Ok (Other x)) vs there by = one_length _ vs by.2
lock_short z n f (Err (Paused (pauses.Lost place x found))) vs there by = two_length _ _ vs by.3
lock_short z n f (Err (Paused (pauses.Busy g x))) vs there by = one_length _ vs by.2
lock_short z n f (Err e) vs there by = absurd by

tried_lock : {v w : PortValue} {f owner : ℕ} {answer : Result Locked Stop} → TriedLock v w f owner answer → Adds v w 2
tried_lock {v} {w} {f} {owner} {answer} a = does_adds v w (λ vs. LocksBy v.post.machine f answer vs) 2 (lock_short (sizes_of v.post.machine) v.post.machine f answer) a.found

-- ---- the way
descends_adds : (va : ℕ) (w : PortValue) (answer : Result ℕ Stop) (v : PortValue) (level table : ℕ) → 1 < level → Descends va w answer v level table → Adds v w (level - 1)
descends_adds va w answer v level table low (ways.unmapped _ _ _ x m off is) = adds_more (moves_adds m) (omega (arith, low))
descends_adds va w answer v level table low (ways.reached _ _ _ x two m on is) = adds_more (moves_adds m) (omega (arith, low))
descends_adds va w answer v level table low (ways.goes _ u _ _ x more m on rest) =
    adds_more (adds_then (moves_adds m) (descends_adds va w answer u (level - 1) (frame_of x) (omega (arith, more)) rest)) (omega (arith, more))

leads_adds : (v w : PortValue) (va : ℕ) (answer : Result ℕ Stop) → Leads v va w answer → Adds v w 4
leads_adds v w va answer (ways.barred x why stay is) = record { post = ap (λ (q : PortValue). q.post) stay; few = (let all = ap (λ (q : PortValue). length q.holdings.steps) stay in omega (arith, all)) }
leads_adds v w va answer (ways.unbased go m is) = adds_more (moves_adds m) (omega arith)
leads_adds v w va answer (ways.based u base go some m path) = adds_then (moves_adds m) (descends_adds va w answer u 4 (base - 1) (omega arith) path)

-- ---- the whole
abbrev vcpus : PortValue → ℕ
vcpus v = length v.post.machine.vcpu_domain

few_more : {v w : PortValue} {k : ℕ} → Adds v w k → k ≤ 10 → length w.holdings.steps ≤ length v.holdings.steps + (68 + 3 * vcpus v)
few_more {v} a low = let few = a.few in let any = vcpus v in omega (arith, few, low)

entered_few : (v : PortValue) (o : Owners) (table i word : ℕ) (w : PortValue) (answers : List Bool) (answer : Result (Unit {0}) Stop) → IsMachine v.post.machine → EnteredAt v o table i word w answers answer →
    length w.holdings.steps ≤ length v.holdings.steps + (68 + 3 * vcpus v)
entered_few v o table i word w answers answer machine (ways.unreferred _ stop got) = few_more (got_ref got) (omega arith)
entered_few v o table i word w answers answer machine (ways.unlocked u y _ stop got tried gave) = few_more (adds_then (got_ref got) (adds_then (tried_lock tried) (gave_ref gave))) (omega arith)
entered_few v o table i word w answers answer machine (ways.other u y _ found got tried gave) = few_more (adds_then (got_ref got) (adds_then (tried_lock tried) (gave_ref gave))) (omega arith)
entered_few v o table i word w answers answer machine (ways.level u y _ level found got tried other left) = few_more (adds_then (got_ref got) (adds_then (tried_lock tried) (left_lock left))) (omega arith)
entered_few v o table i word w answers answer machine (ways.exchanged u y _ found _ _ got tried did) =
    let locked = adds_then (got_ref got) (tried_lock tried) in
    let few : length y.holdings.steps ≤ length v.holdings.steps + 4 = locked.few in
    let more = exchange_short y w (entry_update table 1 i word false) o answers answer (subst (λ (p : Post). IsMachine p.machine) (sym locked.post) machine) did refl in
    let all : vcpus y ≡ vcpus v = ap (λ (p : Post). length p.machine.vcpu_domain) locked.post in
    omega (arith, few, more, all)

pub updated_few : (v : PortValue) (o : Owners) (va word table : ℕ) (w : PortValue) (answers : List Bool) (answer : Result (Unit {0}) Stop) → IsMachine v.post.machine → UpdatedAt v o va word table w answers answer →
    length w.holdings.steps ≤ length v.holdings.steps + (72 + 3 * vcpus v)
updated_few v o va word table w answers answer machine (ways.unled _ stop out leads) = let few = (leads_adds v w va (Err stop) leads).few in let any = vcpus v in omega (arith, few)
updated_few v o va word table w answers answer machine (ways.led u _ _ _ leads entered) =
    let way = leads_adds v u va (Ok table) leads in
    let few : length u.holdings.steps ≤ length v.holdings.steps + 4 = way.few in
    let more = entered_few u o table (index_of va 1) word w answers answer (subst (λ (p : Post). IsMachine p.machine) (sym way.post) machine) entered in
    let all : vcpus u ≡ vcpus v = ap (λ (p : Post). length p.machine.vcpu_domain) way.post in
    omega (arith, few, more, all)
