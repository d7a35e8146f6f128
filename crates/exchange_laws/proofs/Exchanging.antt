-- The whole exchange, from words at rest but for the lock on the table.
use Rattle.std.proofs.Common.{◌≡◌, ℕ, suc, ◌-◌, ◌<◌, ◌≤◌, ◌++◌, Bool, true, false, List, [], inl, inr, Option, Some, None, Result, Ok, Err, refl, sym, ap, ◌∙◌, subst, arith}
use Rattle.std.proofs.Math.Path.{fun_ext}
use Rattle.xp_words.specs.Entries.{demand_at}
use Rattle.xp_words.specs.Machine.{IsMachine, Machine}
use Rattle.xp_words.specs.declared.entry.Demand.{Demand}
use Rattle.xp_words.specs.declared.entry.Demand.TheVariants as demands
use Rattle.xp_words.specs.declared.kind.PageType.{PageType}
use Rattle.xp_words.specs.declared.reply.Refusal.TheVariants as refusals
use Rattle.xp_words.specs.declared.reply.Stop.{Stop}
use Rattle.xp_words.specs.declared.reply.Stop.TheVariants.{Refused, Paused}
use Rattle.xp_preempt.proofs.Consulting.{yeses_then}
use Rattle.xp_board.specs.CellSteps.{is_same_demand}
use Rattle.xp_board.specs.Told.{Post, PortValue, is_telling, told_word}
use Rattle.step_maker.specs.Moves.{Came}
use Rattle.step_maker.proofs.Coming.{came_post, moves_came}
use Rattle.step_maker.proofs.Telling.{came_telling, load_tells, told_there}
use Rattle.partial_state.specs.Levels.{level_type}
use Rattle.table_law.specs.Alone.{Cause, PlainOutcome, back_or, fine, meet, take_at}
use Rattle.table_law.specs.Lawful.{IsAtRest}
use Rattle.table_law.specs.Plain.{Describes, Plain, plain_of}
use Rattle.table_law.specs.Release.{drop_demand, let_go}
use Rattle.table_law.proofs.Counting.{asks_at}
use Rattle.course_laws.specs.Courses.{IsOrderly}
use Rattle.course_laws.proofs.Starting.{described}
use Rattle.foreign_map.specs.declared.owners.Owners.{Owners}
use Rattle.entry_exchange.specs.Course as course
use Rattle.entry_exchange.specs.Course.{Exchanged, LeftLock, PutsNew, ReleasedDemand, SawEntry, TookDemand, TookNew, new_demand, old_demand}
use Rattle.entry_exchange.specs.Holding.{owner_at}
use Rattle.entry_exchange.specs.Words.{same_demand, word_kept}
use Rattle.entry_exchange.specs.declared.exchanging.EntryUpdate.{EntryUpdate}
use Rattle.table_law.specs.Exchange.{exchange_by, exchange_for, put_on, unlocked_plain, with_cell}
use Rattle.exchange_laws.specs.Plain.{ComesAsPlain, ExchangesAsPlain, LeavesPlain, exchanged_plain, place_in}
use Rattle.exchange_laws.proofs.Cells.{meet_keeps}
use Rattle.exchange_laws.proofs.Demanding.{demand_took}
use Rattle.exchange_laws.proofs.Going.{demand_came}
use Rattle.exchange_laws.proofs.Putting.{entry_put, put_came}
use Rattle.exchange_laws.proofs.Releasing.{PausesAsPlain, ReleasesAsPlain, demand_released}
use Rattle.exchange_laws.proofs.Unlocking.{lock_came, lock_off}

-- ---- what is refused, and then given back
or_by : (n : Machine) (level : ℕ) (r : Option Cause) (q : Plain) (back : Plain → Plain) (next : Plain → PlainOutcome) (y w : PortValue) (e : Stop) → ExchangesAsPlain n y level (record { refusal = r; left = q }) (Err e) →
    (Describes n (told_word y) q → Describes n (told_word w) (back q)) → ExchangesAsPlain n w level (back_or r q back next) (Err e)
or_by n level r q back next y w (Refused (refusals.Clock x)) a then = tt
or_by n level None q back next y w (Refused _) a then = absurd a.0
or_by n level (Some c) q back next y w (Refused _) a then = (a.0, λ one. then (a.1 one))
or_by n level r q back next y w (Paused x) a then = tt

-- where it is had, what comes behind it is done
or_done : (r : Option Cause) (q : Plain) (back : Plain → Plain) (next : Plain → PlainOutcome) → r ≡ None → back_or r q back next ≡ next q
or_done r q back next none = ap (λ k. back_or k q back next) none

-- ---- a word that asks what it may not asks the same as no other, and nothing is taken for it
same_bad : (e : Demand) → is_same_demand e demands.Bad ≡ true → ⊥
same_bad demands.Nothing is = absurd cc
same_bad demands.Bad is = absurd cc
same_bad (demands.Read g) is = absurd cc
same_bad (demands.Typed g t) is = absurd cc

pub same_good : (d e : Demand) → same_demand d e ≡ true → d ≡ demands.Bad → ⊥
same_good d e is bad = same_bad e (subst (λ k. is_same_demand e k ≡ true) bad is)

pub took_good : (owner level : ℕ) (v : PortValue) (d : Demand) (w : PortValue) (answers : List Bool) (r : Result (Unit {0}) Stop) → TookDemand owner level v d w answers r → d ≡ demands.Bad → ⊥
took_good owner level v _ _ _ _ course.nothing bad = absurd cc
took_good owner level v _ _ _ _ (course.referred w g ref) bad = absurd cc
took_good owner level v _ _ _ _ (course.unreferred w g stop ref) bad = absurd cc
took_good owner level v _ _ _ _ (course.paged w g one page) bad = absurd cc
took_good owner level v _ _ _ _ (course.unpaged w g stop one page) bad = absurd cc
took_good owner level v _ _ _ _ (course.acquired w g answers two had) bad = absurd cc
took_good owner level v _ _ _ _ (course.refused w g answers stop two had) bad = absurd cc

pub by_other : (n : Machine) (owner : ℕ) (x : EntryUpdate) (new : ℕ) (old : Demand) (p : Plain) (d : Demand) → (d ≡ demands.Bad → ⊥) → exchange_by n owner (place_in x) new old p d ≡ exchange_for n owner (place_in x) new old p d (same_demand d old)
by_other n owner x new old p demands.Nothing good = refl
by_other n owner x new old p demands.Bad good = absurd (good refl)
by_other n owner x new old p (demands.Read g) good = refl
by_other n owner x new old p (demands.Typed g t) good = refl

-- the gate was asked before, too
more_answers : (n : Machine) (w : PortValue) (answers more : List Bool) (q : Plain) → LeavesPlain n w more q → LeavesPlain n w (more ++ answers) q
more_answers n w answers more q (inl d) = inl d
more_answers n w answers more q (inr (said, left)) = let sum = yeses_then answers more in inr (omega (arith, sum, said), left)

-- ---- from the words before
module _ (releases : ReleasesAsPlain) (pauses : PausesAsPlain) (v : PortValue) (x : EntryUpdate) (o : Owners) (machine : IsMachine v.post.machine) (telling : is_telling v ≡ true) (calm : IsAtRest v.post.machine (told_word v)) (orderly : IsOrderly v.post.machine (told_word v))
    (low : 1 ≤ x.level) (high : x.level ≤ 4) (frame : x.table < v.post.machine.frames) (few : x.index < 512) where
  abbrev n : Machine
  n = v.post.machine

  abbrev p : Plain
  p = plain_of (told_word v)

  abbrev owner : ℕ
  owner = owner_at x.level o.tables o.frames

  -- where the port is at work on the same machine, and tells all words
  record IsOn (u : PortValue) : Type 0 where
    pub same : u.post.machine ≡ v.post.machine
    pub tells : is_telling u ≡ true

  goes_on : (u w : PortValue) → IsOn u → Came u w → IsOn w
  goes_on u w on came = record { same = ap (λ (q : Post). q.machine) (came_post u w came) ∙ on.same; tells = came_telling u w came ∙ on.tells }

  -- the entry was looked at
  module _ (u : PortValue) (seen : ℕ) (saw : SawEntry v u x.table x.index seen) where
    on_u : IsOn u
    on_u = goes_on v u (record { same = refl; tells = telling }) (moves_came v u _ _ _ _ _ saw)

    words : told_word u ≡ told_word v
    words = fun_ext (load_tells v u _ _ _ _ saw telling)

    cell : p.cells x.table x.index ≡ seen
    cell = told_there v u _ _ _ _ _ saw telling

    at_u : Describes n (told_word u) p
    at_u = subst (λ m. Describes n m p) (sym words) (described n (told_word v))

    abbrev new : ℕ
    new = word_kept x.keep seen x.word

    -- what the plain exchange is then
    abbrev whole : PlainOutcome
    whole = exchange_by v.post.machine (owner_at x.level o.tables o.frames) (place_in x) (word_kept x.keep seen x.word) (old_demand x seen) (plain_of (told_word v)) (new_demand x seen)

    pub is_whole : exchanged_plain v.post.machine x o (plain_of (told_word v)) ≡ whole
    is_whole =
        ap (λ c. exchange_by n owner (place_in x) (word_kept x.keep c x.word) (demand_at (level_type x.level) x.index c) p (demand_at (level_type x.level) x.index (word_kept x.keep c x.word))) cell

    whole_by : (b : Bool) → (new_demand x seen ≡ demands.Bad → ⊥) → same_demand (new_demand x seen) (old_demand x seen) ≡ b → whole ≡ exchange_for n owner (place_in x) new (old_demand x seen) p (new_demand x seen) b
    whole_by b good is = by_other n owner x new (old_demand x seen) p (new_demand x seen) good ∙ ap (exchange_for n owner (place_in x) new (old_demand x seen) p (new_demand x seen)) is

    bad_whole : (w : PortValue) → new_demand x seen ≡ demands.Bad → LeftLock u x.table x.level w → ExchangesAsPlain n w x.level whole (Err (Refused (refusals.Reserved x.table x.index new)))
    bad_whole w bad lock =
        subst (λ d. ExchangesAsPlain n w x.level (exchange_by n owner (place_in x) new (old_demand x seen) p d) (Err (Refused (refusals.Reserved x.table x.index new)))) (sym bad)
        ((refl, refl, refl), λ one. lock_off n u w x.table x.level p on_u.same on_u.tells low at_u lock)

    -- ---- both ask the same
    same_whole : (y w : PortValue) (old : ℕ) → same_demand (new_demand x seen) (old_demand x seen) ≡ true → PutsNew u y x seen (Ok old) → Came u y → LeftLock y x.table x.level w → ComesAsPlain n w x.level whole [] (Ok tt)
    same_whole y w old same puts came lock =
        let put = entry_put n u y x.table x.index seen new x.keep (Ok old) p on_u.tells at_u puts in
        let on = goes_on u y on_u came in
        subst (λ a. ComesAsPlain n w x.level a [] (Ok tt)) (sym (whole_by true (same_good (new_demand x seen) (old_demand x seen) same) same))
        (refl, inl (lock_off n y w x.table x.level (with_cell x.table x.index new p) on.same on.tells low put.1 lock))

    -- ---- what the new one asks is taken first
    abbrev taking : PlainOutcome
    taking = meet v.post.machine (owner_at x.level o.tables o.frames) (take_at (x.level - 1) v.post.machine (owner_at x.level o.tables o.frames)) x.table x.index (plain_of (told_word v)) (new_demand x seen)

    took : (w : PortValue) (answers : List Bool) (r : Result (Unit {0}) Stop) → TookNew u w x o seen answers r → ExchangesAsPlain n w x.level taking r
    took w answers r a =
        let k = demand_took u owner (subst (λ j. IsMachine j) (sym on_u.same) machine) on_u.tells (subst (λ m. IsAtRest u.post.machine m) (sym words) (subst (λ j. IsAtRest j (told_word v)) (sym on_u.same) calm))
        (subst (λ m. IsOrderly u.post.machine m) (sym words) (subst (λ j. IsOrderly j (told_word v)) (sym on_u.same) orderly)) x.level x.table x.index low high (new_demand x seen) w answers r a in
        subst (λ m. ExchangesAsPlain n w x.level (meet n owner (take_at (x.level - 1) n owner) x.table x.index (plain_of m) (new_demand x seen)) r) words
        (subst (λ j. ExchangesAsPlain j w x.level (meet j owner (take_at (x.level - 1) j owner) x.table x.index (plain_of (told_word u)) (new_demand x seen)) r) on_u.same k)

    took_on : (y : PortValue) (answers : List Bool) (r : Result (Unit {0}) Stop) → TookNew u y x o seen answers r → IsOn y
    took_on y answers r a = goes_on u y on_u (demand_came owner x.level u (new_demand x seen) y answers r a)

    -- what is not to be had
    untaken_whole : (y w : PortValue) (answers : List Bool) (stop : Stop) → same_demand (new_demand x seen) (old_demand x seen) ≡ false → TookNew u y x o seen answers (Err stop) → LeftLock y x.table x.level w → ExchangesAsPlain n w x.level whole (Err stop)
    untaken_whole y w answers stop differ a lock =
        let on = took_on y answers (Err stop) a in
        subst (λ b. ExchangesAsPlain n w x.level b (Err stop)) (sym (whole_by false (took_good owner x.level u (new_demand x seen) y answers (Err stop) a) differ))
        (or_by n x.level taking.refusal taking.left (unlocked_plain x.level x.table) (λ q. fine (put_on (place_in x) new (old_demand x seen) q)) y w stop (took y answers (Err stop) a)
        (λ d. lock_off n y w x.table x.level taking.left on.same on.tells low d lock))

    asks : (old g : ℕ) (t : PageType) → old_demand x old ≡ demands.Typed g t → t ≡ level_type (x.level - 1)
    asks old g t is =
        let e : x.level ≡ suc (x.level - 1) = omega (arith, low) in
        asks_at (x.level - 1) x.index old g t (omega (arith, high)) (subst (λ k. demand_at (level_type k) x.index old ≡ demands.Typed g t) e is)

    -- the word is put there, the lock goes off, and what the old one asked is released
    done_whole : (y z a w : PortValue) (old : ℕ) (answers more : List Bool) → same_demand (new_demand x seen) (old_demand x seen) ≡ false → TookNew u y x o seen answers (Ok tt) → PutsNew y z x seen (Ok old) → LeftLock z x.table x.level a →
        ReleasedDemand a (old_demand x old) w more → ComesAsPlain n w x.level whole (more ++ answers) (Ok tt)
    done_whole y z a w old answers more differ taken puts lock gone =
        let t = took y answers (Ok tt) taken in
        let on_y = took_on y answers (Ok tt) taken in
        let put = entry_put n y z x.table x.index seen new x.keep (Ok old) taking.left on_y.tells t.1 puts in
        let was : old ≡ seen = sym put.0 ∙ (sym (t.1.cells x.table x.index frame few) ∙ (meet_keeps n owner (x.level - 1) x.table x.index p (new_demand x seen) t.0 x.table x.index ∙ cell)) in
        let on_z = goes_on y z on_y (put_came y z x.table x.index seen new x.keep (Ok old) puts) in
        let off = lock_off n z a x.table x.level (with_cell x.table x.index new taking.left) on_z.same on_z.tells low put.1 lock in
        let on_a = goes_on z a on_z (lock_came z a x.table x.level lock) in
        let free = unlocked_plain x.level x.table (with_cell x.table x.index new taking.left) in
        let gave = demand_released releases pauses n a machine on_a.same on_a.tells (x.level - 1) (omega (arith, high)) free off (old_demand x old) w more (asks old) gone in
        subst (λ b. ComesAsPlain n w x.level b (more ++ answers) (Ok tt))
        (sym (whole_by false (took_good owner x.level u (new_demand x seen) y answers (Ok tt) taken) differ ∙ or_done taking.refusal taking.left (unlocked_plain x.level x.table) (λ q. fine (put_on (place_in x) new (old_demand x seen) q)) t.0))
        (refl, more_answers n w answers more _ (subst (λ c. LeavesPlain n w more (drop_demand (let_go (x.level - 1)) free (old_demand x c))) was gave))

  -- ---- the law
  pub exchange_plain : (w : PortValue) (answers : List Bool) (r : Result (Unit {0}) Stop) → Exchanged v x o w answers r → ComesAsPlain v.post.machine w x.level (exchanged_plain v.post.machine x o (plain_of (told_word v))) answers r
  exchange_plain _ _ _ (course.bad u w seen saw bad lock) =
      subst (λ a. ExchangesAsPlain n w x.level a (Err (Refused (refusals.Reserved x.table x.index (word_kept x.keep seen x.word))))) (sym (is_whole u seen saw)) (bad_whole u seen saw w bad lock)
  exchange_plain _ _ _ (course.same u y w seen old saw same puts lock) =
      subst (λ a. ComesAsPlain n w x.level a [] (Ok tt)) (sym (is_whole u seen saw)) (same_whole u seen saw y w old same puts (put_came u y x.table x.index seen (word_kept x.keep seen x.word) x.keep (Ok old) puts) lock)
  exchange_plain _ _ _ (course.unput u y w seen stop saw same puts lock) =
      entry_put n u y x.table x.index seen (word_kept x.keep seen x.word) x.keep (Err stop) p (on_u u seen saw).tells (at_u u seen saw) puts w x.level (exchanged_plain n x o p)
  exchange_plain _ _ _ (course.untaken u y w seen answers stop saw differ a lock) =
      subst (λ b. ExchangesAsPlain n w x.level b (Err stop)) (sym (is_whole u seen saw)) (untaken_whole u seen saw y w answers stop differ a lock)
  exchange_plain _ _ _ (course.lost u y z a w seen answers stop saw differ taken puts gave lock) =
      let t = took u seen saw y answers (Ok tt) taken in
      entry_put n y z x.table x.index seen (word_kept x.keep seen x.word) x.keep (Err stop) (taking u seen saw).left (took_on u seen saw y answers (Ok tt) taken).tells t.1 puts w x.level (exchanged_plain n x o p)
  exchange_plain _ _ _ (course.done u y z a w seen old answers more saw differ taken puts lock gone) =
      subst (λ b. ComesAsPlain n w x.level b (more ++ answers) (Ok tt)) (sym (is_whole u seen saw)) (done_whole u seen saw y z a w old answers more differ taken puts lock gone)
