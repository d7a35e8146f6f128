-- An exchange at level 1 makes few steps: it looks at the one entry, and waits once at the most.
use Rattle.std.proofs.Common.{◌≡◌, ◌≢◌, ℕ, ◌+◌, ◌*◌, ◌≤◌, Bool, true, false, List, [], ◌∷◌, length, Option, Result, Ok, Err, refl, ap, ◌∙◌, subst, arith}
use Rattle.std.proofs.lemmas.Bool.{and_from}
use Rattle.xp_words.specs.Machine.{IsMachine}
use Rattle.xp_words.specs.Places.{is_place, sizes_of}
use Rattle.xp_words.specs.declared.entry.Demand.{Demand}
use Rattle.xp_words.specs.declared.entry.Demand.TheVariants as demands
use Rattle.xp_words.specs.declared.kind.PageType.{PageType}
use Rattle.xp_words.specs.declared.kind.PageType.TheVariants.{Writable}
use Rattle.xp_words.specs.declared.place.Place.{Place}
use Rattle.xp_words.specs.declared.reply.Stop.{Stop}
use Rattle.xp_words.specs.PageTypes.{is_table}
use Rattle.xp_board.specs.declared.step.Act.{Act}
use Rattle.xp_board.specs.declared.step.Mark.{Mark}
use Rattle.xp_board.specs.declared.step.StepKind.{StepKind}
use Rattle.xp_board.specs.Told.{Post, PortValue}
use Rattle.step_maker.specs.Moves.{Moment, Moves, Ran}
use Rattle.step_maker.proofs.Coming.{ran_post}
use Rattle.step_maker.proofs.Noting.{moves_steps}
use Rattle.step_maker.specs.Visits.{Does, Visit, visits}
use Rattle.entry_locks.specs.Locks.{Unlocks}
use Rattle.foreign_map.specs.declared.owners.Owners.{Owners}
use Rattle.frame_types.specs.Found.{DeadBy, DropsBy, SharedBy, TypeBy}
use Rattle.frame_types.specs.declared.taking.Taken.{Taken}
use Rattle.frame_types.proofs.Shared.{ran_length}
use Rattle.frame_words.specs.Freeing.{PutBy}
use Rattle.frame_words.specs.Refs.{GetsBy}
use Rattle.kept_marks.specs.Marks.{KeptFor}
use Rattle.kept_marks.specs.Marks as marks
use Rattle.kind_words.specs.Kinds.{partial_kind}
use Rattle.level_release.specs.Course.{WasReleased}
use Rattle.level_release.specs.Course as releases
use Rattle.partial_state.specs.Levels.{level_type}
use Rattle.table_entries.specs.Acquiring.{GaveRef, GaveType, GotRef, TookType}
use Rattle.writable_pages.specs.Pages.{GotPage, PageLeft, TookPage}
use Rattle.writable_pages.specs.Pages as pages
use Rattle.entry_exchange.specs.declared.exchanging.EntryUpdate.{EntryUpdate}
use Rattle.entry_exchange.specs.Course.{Exchanged, GaveDemand, LeftLock, PutEntry, ReleasedDemand, TookDemand, old_demand}
use Rattle.entry_exchange.specs.Course as courses
use Rattle.entry_exchange.specs.Parts.{IsOfLevel}
use Rattle.entry_exchange.proofs.Lengths.{Short, are_there, dead_short, drops_short, gets_short, puts_short, shared_short, typed_short}
use Rattle.entry_exchange.proofs.ServesWords.{fits_level}

-- ---- steps of a port
abbrev vcpus : PortValue → ℕ
vcpus v = length v.post.machine.vcpu_domain

-- w is the same port as v, with no more than k steps more in its list
pub record Adds (v w : PortValue) (k : ℕ) : Type 0 where
  pub post : w.post ≡ v.post
  pub few : length w.holdings.steps ≤ length v.holdings.steps + k

adds_none : {v : PortValue} → Adds v v 0
adds_none = record { post = refl; few = omega arith }

pub adds_more : {v w : PortValue} {j k : ℕ} → Adds v w j → j ≤ k → Adds v w k
adds_more a low = record { post = a.post; few = (let few = a.few in omega arith) }

pub adds_then : {v u w : PortValue} {j k : ℕ} → Adds v u j → Adds u w k → Adds v w (j + k)
adds_then a b = record { post = b.post ∙ a.post; few = (let before = a.few in let after = b.few in omega arith) }

-- the vCPUs are the same before and behind steps
adds_at : {v u w : PortValue} {j : ℕ} (k n : ℕ) → Adds v u j → Adds u w (k + n * vcpus u) → Adds v w (j + k + n * vcpus v)
adds_at {v} {u} {w} k n a b = adds_more (adds_then a (subst (λ (p : Post). Adds u w (k + n * length p.machine.vcpu_domain)) a.post b)) (omega arith)

-- one step is one more
pub moves_length : {v w : PortValue} {p : Place} {a : Act} {kind : StepKind} {mark : Option Mark} {found : ℕ} → Moves v w p a kind mark found → length w.holdings.steps ≡ length v.holdings.steps + 1
moves_length m = ap (λ xs. length xs) (moves_steps _ _ _ _ _ _ _ m) ∙ omega arith

pub moves_adds : {v w : PortValue} {p : Place} {a : Act} {kind : StepKind} {mark : Option Mark} {found : ℕ} → Moves v w p a kind mark found → Adds v w 1
moves_adds m = record { post = ap (λ (x : PortValue). x.post) m.to; few = (let one = moves_length m in omega arith) }

pub ran_there : (v w : PortValue) (ms : List Moment) → Ran v ms w → are_there (sizes_of v.post.machine) (visits ms) ≡ true
ran_there v w [] ran = refl
ran_there v w (m ∷ ms) ran =
    and_from (is_place (sizes_of v.post.machine) m.place) (are_there (sizes_of v.post.machine) (visits ms))
    (subst (λ (p : Post). is_place (sizes_of p.machine) m.place ≡ true) (ran_post v ran.0 ms ran.1) ran.2.moves.may.place) (ran_there v ran.0 ms ran.1)

pub does_adds : (v w : PortValue) (P : List Visit → Type 0) (k : ℕ) → Short (sizes_of v.post.machine) P k → Does v w P → Adds v w k
unfolding Does
does_adds v w P k short does =
    let less = short (visits does.0) (ran_there v w does.0 does.1) does.2 in
    let all = ran_length v w does.0 does.1 in
    record { post = ran_post v w does.0 does.1; few = omega arith }

-- ---- single calls
pub got_ref : {v w : PortValue} {f owner : ℕ} {answer : Result ℕ Stop} → GotRef v w f owner answer → Adds v w 2
got_ref {v} {w} {f} {owner} {answer} a = does_adds v w (λ vs. GetsBy v.post.machine f owner answer vs) 2 (gets_short (sizes_of v.post.machine) v.post.machine f owner answer) a.found

pub gave_ref : {v w : PortValue} {f : ℕ} → GaveRef v w f → Adds v w 5
gave_ref {v} {w} {f} a = does_adds v w (PutBy f) 5 (puts_short (sizes_of v.post.machine) f) a.found

gave_type : {v w : PortValue} {f : ℕ} {kind : PageType} → GaveType v w f kind → Adds v w 8
gave_type {v} {w} {f} {kind} a = does_adds v w (λ vs. DropsBy f kind vs) 8 (drops_short (sizes_of v.post.machine) f kind) a.found

took_type : (v w : PortValue) (f owner level : ℕ) (answer : Result Taken Stop) → TookType v w f owner level answer → Adds v w (8 + 4 * vcpus v)
took_type v w f owner level answer a =
    does_adds v w (λ vs. TypeBy v.post f owner (level_type level) answer vs) (8 + 4 * vcpus v) (typed_short (sizes_of v.post.machine) v.post f owner (level_type level) answer) a.found

-- ---- ordinary memory is taken
kept_adds : (v w : PortValue) (f owner stamp : ℕ) → KeptFor v w f (partial_kind Writable true true 0 stamp) owner → Adds v w 4
kept_adds v w f owner stamp (marks.own mine left) = adds_more (moves_adds left.1) (omega arith)
kept_adds v w f owner stamp (marks.alive u foreign left look) = adds_more (adds_then (moves_adds left.1) (moves_adds look)) (omega arith)
kept_adds v w f owner stamp (marks.dying u x y life foreign left look dead back names) = adds_then (moves_adds left.1) (adds_then (moves_adds look) (adds_then (moves_adds back) (moves_adds names)))
kept_adds v w f owner stamp (marks.taken u x life found foreign left look dead back other) = adds_more (adds_then (moves_adds left.1) (adds_then (moves_adds look) (moves_adds back))) (omega arith)

left_adds : (v w : PortValue) (f owner stamp : ℕ) (own refused : Bool) → PageLeft v w f owner stamp own refused → Adds v w 7
left_adds v w f owner stamp true true a = does_adds v w (λ vs. DeadBy f Writable vs) 7 (dead_short (sizes_of v.post.machine) f Writable) a
left_adds v w f owner stamp true false a = adds_more (kept_adds v w f owner stamp a) (omega arith)
left_adds v w f owner stamp false refused a = adds_more (does_adds v w (λ vs. SharedBy f Writable stamp vs) 6 (shared_short (sizes_of v.post.machine) f Writable stamp) a) (omega arith)

-- a type with its wait, and then what gives it or its reference back
took_then : {v u w : PortValue} {f owner : ℕ} {taken : Result Taken Stop} {k : ℕ} → TookType v u f owner 0 taken → Adds u w k → k ≤ 7 → Adds v w (15 + 4 * vcpus v)
took_then {v} {u} {w} {f} {owner} {taken} {k} took after low = adds_more (adds_then (took_type v u f owner 0 taken took) after) (omega arith)

took_page : (v w : PortValue) (f owner : ℕ) (answer : Result (Unit {0}) Stop) → TookPage v f owner w answer → Adds v w (15 + 4 * vcpus v)
took_page v w f owner answer (pages.counted _ took) = took_then took adds_none (omega arith)
took_page v w f owner answer (pages.untyped u _ stop took gave) = took_then took (gave_ref gave) (omega arith)
took_page v w f owner answer (pages.waiting u _ own stamp stop took left) = took_then took (left_adds u w f owner stamp own _ left.steps) (omega arith)

got_page : (v w : PortValue) (f owner : ℕ) (answer : Result ℕ Stop) → GotPage v f owner w answer → Adds v w (17 + 4 * vcpus v)
got_page v w f owner answer (pages.unreferred _ stop got) = adds_more (got_ref got) (omega arith)
got_page v w f owner answer (pages.refused u _ stop got took) = adds_at 15 4 (got_ref got) (took_page u w f owner (Err stop) took)
got_page v w f owner answer (pages.had u _ got took) = adds_at 15 4 (got_ref got) (took_page u w f owner (Ok tt) took)

-- ---- what the words ask, at level 1
took_demand : (owner level : ℕ) (v w : PortValue) (d : Demand) (answers : List Bool) (answer : Result (Unit {0}) Stop) → level ≡ 1 → TookDemand owner level v d w answers answer → Adds v w (17 + 4 * vcpus v)
took_demand owner level v w d answers answer one courses.nothing = adds_more adds_none (omega arith)
took_demand owner level v w d answers answer one (courses.referred _ g got) = adds_more (got_ref got) (omega arith)
took_demand owner level v w d answers answer one (courses.unreferred _ g stop got) = adds_more (got_ref got) (omega arith)
took_demand owner level v w d answers answer one (courses.paged _ g low got) = got_page v w g owner (Ok g) got
took_demand owner level v w d answers answer one (courses.unpaged _ g stop low got) = got_page v w g owner (Err stop) got
took_demand owner level v w d answers answer one (courses.acquired _ g _ high got) = absurd (omega arith)
took_demand owner level v w d answers answer one (courses.refused _ g _ stop high got) = absurd (omega arith)

gave_demand : (owner level : ℕ) (v w : PortValue) (d : Demand) → level ≡ 1 → GaveDemand owner level v d w → Adds v w 8
gave_demand owner level v w d one courses.nothing = adds_more adds_none (omega arith)
gave_demand owner level v w d one (courses.referred _ g gave) = adds_more (gave_ref gave) (omega arith)
gave_demand owner level v w d one (courses.paged _ g low gave) = gave_type gave
gave_demand owner level v w d one (courses.shared u _ g high drops gave) = absurd (omega arith)
gave_demand owner level v w d one (courses.last u _ g high drops kept) = absurd (omega arith)

was_released : (v w : PortValue) (f : ℕ) (kind : PageType) (answers : List Bool) (answer : Result (Unit {0}) Stop) → is_table kind ≡ false → WasReleased v f kind w answers answer → Adds v w 8
was_released v w f kind answers answer off (releases.plain _ plain gave) = gave_type gave
was_released v w f kind answers answer off (releases.shared u _ table drops gave) = absurd cc
was_released v w f kind answers answer off (releases.last u x _ word level _ _ table named low drops look empties) = absurd cc

released_demand : (v w : PortValue) (d : Demand) (answers : List Bool) → (d ≢ demands.Bad → IsOfLevel 1 d) → ReleasedDemand v d w answers → Adds v w 8
released_demand v w d answers fits courses.nothing = adds_more adds_none (omega arith)
released_demand v w d answers fits courses.bad = adds_more adds_none (omega arith)
released_demand v w d answers fits (courses.referred _ g gave) = adds_more (gave_ref gave) (omega arith)
released_demand v w d answers fits (courses.released _ g t _ answer released due) = was_released v w g t answers answer (ap (λ k. is_table k) (fits (λ e. absurd cc))) released

-- ---- the entry, and the lock
put_adds : {v w : PortValue} {f i seen new : ℕ} {keep : Bool} {answer : Result ℕ Stop} → PutEntry v w f i seen new keep answer → Adds v w 1
put_adds (courses.stored old m) = moves_adds m
put_adds (courses.exchanged m) = moves_adds m
put_adds (courses.lost found other m) = moves_adds m

unlocks_adds : {v w : PortValue} {f : ℕ} {last : Bool} → Unlocks v w f last → Adds v w 1
unlocks_adds a = moves_adds a.unlocks.step

pub left_lock : {v w : PortValue} {f level : ℕ} → LeftLock v f level w → Adds v w 6
left_lock (courses.shared u _ off gave) = adds_then (unlocks_adds off) (gave_ref gave)
left_lock (courses.last u y _ found off left named) = adds_more (adds_then (unlocks_adds off) (adds_then (moves_adds left) (moves_adds named))) (omega arith)

-- ---- the whole
module _ (v : PortValue) (x : EntryUpdate) (o : Owners) (one : x.level ≡ 1) where
  old_fits : (old : ℕ) → old_demand x old ≢ demands.Bad → IsOfLevel 1 (old_demand x old)
  old_fits old off = subst (λ n. IsOfLevel n (old_demand x old)) one (fits_level x.level x.index old off)

  -- the look, what was taken, and what follows
  behind_took : {u y w : PortValue} {k : ℕ} → Adds v u 1 → Adds u y (17 + 4 * vcpus u) → Adds y w k → k ≤ 15 → Adds v w (33 + 4 * vcpus v)
  behind_took {u} {y} {w} {k} saw took after low = adds_more (adds_then (adds_at 17 4 saw took) after) (omega arith)

  exchanged_adds : (w : PortValue) (answers : List Bool) (answer : Result (Unit {0}) Stop) → Exchanged v x o w answers answer → Adds v w (33 + 4 * vcpus v)
  exchanged_adds w answers answer (courses.bad u _ seen saw asks left) = adds_more (adds_then (moves_adds saw) (left_lock left)) (omega arith)
  exchanged_adds w answers answer (courses.same u y _ seen old saw same put left) = adds_more (adds_then (moves_adds saw) (adds_then (put_adds put) (left_lock left))) (omega arith)
  exchanged_adds w answers answer (courses.unput u y _ seen stop saw same put left) = adds_more (adds_then (moves_adds saw) (adds_then (put_adds put) (left_lock left))) (omega arith)
  exchanged_adds w answers answer (courses.untaken u y _ seen _ stop saw other took left) = behind_took (moves_adds saw) (took_demand _ x.level u y _ _ _ one took) (left_lock left) (omega arith)
  exchanged_adds w answers answer (courses.lost u y z a _ seen _ stop saw other took put gave left) =
      behind_took (moves_adds saw) (took_demand _ x.level u y _ _ _ one took) (adds_then (put_adds put) (adds_then (gave_demand _ x.level z a _ one gave) (left_lock left))) (omega arith)
  exchanged_adds w answers answer (courses.done u y z a _ seen old _ more saw other took put left gives) =
      behind_took (moves_adds saw) (took_demand _ x.level u y _ _ _ one took) (adds_then (put_adds put) (adds_then (left_lock left) (released_demand a w _ more (old_fits old) gives))) (omega arith)

-- No machine has more than 16 vCPUs, so that 3 steps for each are enough beside the 64.
pub exchange_short : (v w : PortValue) (x : EntryUpdate) (o : Owners) (answers : List Bool) (answer : Result (Unit {0}) Stop) → IsMachine v.post.machine → Exchanged v x o w answers answer → x.level ≡ 1 →
    length w.holdings.steps ≤ length v.holdings.steps + (64 + 3 * length v.post.machine.vcpu_domain)
exchange_short v w x o answers answer machine course one =
    let few = (exchanged_adds v x o one w answers answer course).few in
    let vcpus = machine.few_vcpus in
    omega arith
