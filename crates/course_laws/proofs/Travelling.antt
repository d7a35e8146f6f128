-- A call goes on from port to port, entry by entry, until it stops or the gate says yes.
use Rattle.std.proofs.Common.{◌≡◌, ℕ, ◌+◌, ◌<◌, ◌%◌, ◌^◌, not, Bool, true, false, List, ◌∷◌, None, Result, Ok, Err, refl, sym, ap, ◌∙◌, subst, [], arith}
use Rattle.xp_words.specs.KindWords.{kind_write}
use Rattle.xp_words.specs.Machine.{IsMachine, Machine}
use Rattle.xp_words.specs.declared.place.Place.{Place}
use Rattle.xp_words.specs.declared.place.Place.TheVariants.{Cell, Kind, Refs}
use Rattle.xp_words.specs.declared.reply.Pause.TheVariants as pauses
use Rattle.xp_words.specs.declared.reply.Refusal.{Refusal}
use Rattle.xp_words.specs.declared.reply.Refusal.TheVariants as refusals
use Rattle.xp_words.specs.declared.reply.Stop.{Stop}
use Rattle.xp_words.specs.declared.reply.Stop.TheVariants.{Refused, Paused}
use Rattle.xp_board.specs.RefSteps.{one_down}
use Rattle.xp_board.specs.declared.step.Act.TheVariants.{Add, Store}
use Rattle.xp_board.specs.declared.step.StepKind.TheVariants as kinds
use Rattle.xp_board.specs.Told.{Post, PortValue, is_telling, told_word}
use Rattle.step_maker.specs.Moves.{Came, Moves}
use Rattle.step_maker.specs.Plain.{Words, change}
use Rattle.step_maker.proofs.Coming.{came_post, moves_came}
use Rattle.step_maker.proofs.Telling.{came_telling, changed, leaves, load_tells}
use Rattle.step_maker.specs.Twins.{Alike}
use Rattle.step_maker.proofs.Alikes.{same_alike}
use Rattle.step_maker.proofs.Visiting.{does_came}
use Rattle.flush_waits.specs.Waiting.{IsWait}
use Rattle.frame_types.specs.Plain.{set_kind}
use Rattle.kind_words.specs.Kinds.{live_kind}
use Rattle.partial_state.specs.Levels.{level_type}
use Rattle.partial_state.specs.declared.stack.TableWork.{TableWork}
use Rattle.table_entries.specs.declared.entries.Entered.TheVariants.{Opened, Recorded}
use Rattle.table_law.specs.Alone.{PlainOutcome}
use Rattle.table_twins.proofs.Kinding.{described_alike}
use Rattle.course_laws.proofs.Extras.{extra, lent}
use Rattle.course_laws.proofs.Under.{spelled_same}
use Rattle.table_entries.specs.Acquiring.{Advanced, Filled, GaveBack, Joined, MadeLive, TookEntry, TookOn, asked, begun, completed, cut_off, due, fresh, one_entry_more, opened, recorded, settled, stopped, table_opened, taken, type_counts, unasked, unsettled, waiting}
use Rattle.course_laws.proofs.Walking.{back_came}
use Rattle.course_laws.proofs.Completing.{IsKinded, lowered_kinded, own_paces, same_kinded, shared_paces, stored_kinded}
use Rattle.course_laws.proofs.Pacing.{Aim, Carries, IsLastSettled, Paces, RefusedWith, never_due, opened_carries, opened_none, recorded_paces, refused_paces}
use Rattle.course_laws.proofs.Refusing.{IsForWords}

-- a table with nothing recorded is not taken on
abbrev pub IsFresh : List TableWork → Type 0
IsFresh [] = ⊥
IsFresh (t ∷ ts) = t.done ≡ 0

pub taken_fresh : (owner : ℕ) (v : PortValue) (ts : List TableWork) (w : PortValue) (us : List TableWork) (r : Result Bool Stop) → TookOn owner v ts w us r → IsFresh ts → (w ≡ v) × (us ≡ ts) × (r ≡ Ok false)
taken_fresh owner _ _ _ _ _ (fresh v t ts none) is = (refl, refl, refl)
taken_fresh owner _ _ _ _ _ (settled v w t ts some a) is = absurd (omega arith)
taken_fresh owner _ _ _ _ _ (taken v u w t ts f some a b) is = absurd (omega arith)
taken_fresh owner _ _ _ _ _ (opened v u w t ts us f progress answer some a b) is = absurd (omega arith)
taken_fresh owner _ _ _ _ _ (waiting v u w t ts f stamp stop some a b) is = absurd (omega arith)
taken_fresh owner _ _ _ _ _ (stopped v w t ts stop some a) is = absurd (omega arith)

-- at a port, behind an entry that is done with or not
pub record Steps (n : Machine) (owner : ℕ) (u : PortValue) (ts : List TableWork) (a : Aim) (done : Bool) : Type 0 where
  pub machine : u.post.machine ≡ n
  pub telling : is_telling u ≡ true
  pub carries : Carries n owner (told_word u) ts a
  pub settled : done ≡ true → IsLastSettled n carries.plain ts

-- at a port, refused with these tables in work
pub record RefusedAt (n : Machine) (owner : ℕ) (w : PortValue) (ts : List TableWork) (y : Refusal) (a : PlainOutcome) : Type 0 where
  pub machine : w.post.machine ≡ n
  pub telling : is_telling w ≡ true
  pub words : RefusedWith n owner (told_word w) ts y a

-- what it stops for, of which P holds where it is a refusal for what the words say; it is not the gate
abbrev pub EndsAs : Bool → (Refusal → Type 0) → Stop → Type 0
EndsAs whole P (Refused y) = IsForWords whole y → P y
EndsAs whole P (Paused pauses.Due) = ⊥
EndsAs whole P (Paused x) = Unit {0}

pub wait_ends : (whole : Bool) (P : Refusal → Type 0) (e : Stop) → IsWait e → EndsAs whole P e
wait_ends whole P (Refused (refusals.Clock x)) wait = λ known. absurd known
wait_ends whole P (Refused _) wait = absurd wait
wait_ends whole P (Paused (pauses.Flush v y x)) wait = tt
wait_ends whole P (Paused _) wait = absurd wait

-- with these tables in work
abbrev pub Ends : Machine → ℕ → PortValue → List TableWork → Aim → Stop → Type 0
Ends n owner w ts a e = EndsAs a.whole (λ y. RefusedAt n owner w ts y a.outcome) e

-- the same machine, all told
module _ (n : Machine) (owner : ℕ) (u w : PortValue) (a : Aim) (same : u.post.machine ≡ n) (telling : is_telling u ≡ true) (came : Came u w) where
  there : w.post.machine ≡ n
  there = ap (λ (p : Post). p.machine) (came_post u w came) ∙ same

  telling_there : is_telling w ≡ true
  telling_there = came_telling u w came ∙ telling

  pub paces_to : (xs : List TableWork) → Paces u.post.machine owner (told_word w) xs a → Steps n owner w xs a true
  paces_to xs p = let q = subst (λ k. Paces k owner (told_word w) xs a) same p in record { machine = there; telling = telling_there; carries = q.on; settled = λ done. q.settled }

  pub carries_to : (xs : List TableWork) → Carries u.post.machine owner (told_word w) xs a → Steps n owner w xs a false
  carries_to xs c = record { machine = there; telling = telling_there; carries = subst (λ k. Carries k owner (told_word w) xs a) same c; settled = λ done. absurd cc }

-- words that are alike
paces_same : (n : Machine) (owner : ℕ) (m x : Words) (ts : List TableWork) (a : Aim) → Alike x m → Paces n owner m ts a → Paces n owner x ts a
paces_same n owner m x ts a alike p =
    let c = p.on in
    record {
      on = record {
        plain = c.plain;
        under = c.under;
        describes = described_alike n x m (lent (extra ts) c.plain) alike c.describes;
        spelled = spelled_same n m x c.plain c.plain (λ h inside. c.describes.kinds h inside) c.spelled alike (λ h. refl);
        flags = c.flags;
        mine = c.mine;
      };
      settled = p.settled;
    }

-- ---- a table is complete
module _ (n : Machine) (owner : ℕ) (u v : PortValue) (t : TableWork) (ts : List TableWork) (a : Aim) (b : Bool) (g : Steps n owner u (t ∷ ts) a b) (full : t.done ≡ 512) (made : MadeLive u v t) where
  stored : (own : Bool) → t.own ≡ own → IsKinded (told_word u) (told_word v) t.frame (kind_write (live_kind (level_type t.level) (type_counts own)))
  stored own is =
      let new = live_kind (level_type t.level) (type_counts own) in
      let moved = subst (λ c. Moves u v (Kind t.frame) (Store (kind_write (live_kind (level_type t.level) (type_counts c)))) kinds.Kind None made.0) is made.1 in
      let all = leaves u v _ _ _ _ _ moved g.telling in
      same_kinded (told_word u) (set_kind t.frame new (told_word u)) (told_word v) t.frame (kind_write new) (stored_kinded (told_word u) t.frame new) (λ h. all (Refs h)) (λ h i. all (Cell h i)) (λ h. all (Kind h))

  made_came : Came u v
  made_came = moves_came u v _ _ _ _ _ made.1

  pub live_steps : t.own ≡ true → Steps n owner v ts a true
  live_steps own =
      let c = g.carries in
      let p = own_paces n owner (told_word u) t ts a c full (told_word v) own (stored true own) in
      record { machine = ap (λ (q : Post). q.machine) (came_post u v made_came) ∙ g.machine; telling = came_telling u v made_came ∙ g.telling; carries = p.on; settled = λ done. p.settled }

  -- with a type count and a reference that are given back
  module _ (w : PortValue) (shared : t.own ≡ false) (back : GaveBack v w t.frame) where
    telling_v : is_telling v ≡ true
    telling_v = came_telling u v made_came ∙ g.telling

    lowers : IsKinded (told_word u) (told_word back.between) t.frame ((kind_write (live_kind (level_type t.level) 2) + one_down) % 2 ^ 64)
    lowers =
        let new = live_kind (level_type t.level) 2 in
        let all = leaves v back.between _ _ _ _ _ back.lowers.lowers.step telling_v in
        let was = leaves u v _ _ _ _ _ (subst (λ c. Moves u v (Kind t.frame) (Store (kind_write (live_kind (level_type t.level) (type_counts c)))) kinds.Kind None made.0) shared made.1) g.telling in
        let words : (q : Place) → told_word back.between q ≡ change (Add one_down) (Kind t.frame) (set_kind t.frame new (told_word u)) q = λ q. all q ∙ changed (Add one_down) (Kind t.frame) (told_word v) (set_kind t.frame new (told_word u)) was q in
        same_kinded (told_word u) (change (Add one_down) (Kind t.frame) (set_kind t.frame new (told_word u))) (told_word back.between) t.frame _ (lowered_kinded (told_word u) t.frame new)
        (λ h. words (Refs h)) (λ h i. words (Cell h i)) (λ h. words (Kind h))

    between_telling : is_telling back.between ≡ true
    between_telling = came_telling v back.between (moves_came v back.between _ _ _ _ _ back.lowers.lowers.step) ∙ telling_v

    pub shared_steps : Steps n owner w ts a true
    shared_steps =
        let c = g.carries in
        let p = shared_paces n owner (told_word u) t ts a c full (told_word back.between) (told_word w) shared lowers (back.puts.plain between_telling) in
        let came = back_came v w t.frame back in
        record {
          machine = ap (λ (q : Post). q.machine) (came_post v w came) ∙ (ap (λ (q : Post). q.machine) (came_post u v made_came) ∙ g.machine);
          telling = came_telling v w came ∙ telling_v;
          carries = p.on;
          settled = λ done. p.settled;
        }

-- ---- one entry, or one table
abbrev pub Outcome : Machine → ℕ → PortValue → List TableWork → Aim → Result Bool Stop → Type 0
Outcome n owner w xs a (Ok done) = Steps n owner w xs a done
Outcome n owner w xs a (Err e) = Ends n owner w xs a e

module _ (n : Machine) (owner : ℕ) (a : Aim) (is : IsMachine n) where
  module _ (u w : PortValue) (t : TableWork) (ts : List TableWork) (b : Bool) (g : Steps n owner u (t ∷ ts) a b) (few : t.done < 512) where
    is_here : IsMachine u.post.machine
    is_here = subst IsMachine (sym g.machine) is

    carries_here : Carries u.post.machine owner (told_word u) (t ∷ ts) a
    carries_here = subst (λ k. Carries k owner (told_word u) (t ∷ ts) a) (sym g.machine) g.carries

    recorded_steps : TookEntry u w owner t (Ok Recorded) → Steps n owner w (one_entry_more t ∷ ts) a true
    recorded_steps took = paces_to n owner u w a g.machine g.telling (does_came u w _ took.found) (one_entry_more t ∷ ts) (recorded_paces u w owner t ts a carries_here is_here g.telling few took.plain)

    opened_steps : (f progress : ℕ) (own : Bool) → TookEntry u w owner t (Ok (Opened f progress own)) → (progress ≡ 0) × Steps n owner w (table_opened t f progress own false ∷ one_entry_more t ∷ ts) a false
    opened_steps f progress own took = (
      opened_none u w owner t ts a carries_here is_here g.telling few f progress own took.plain,
      carries_to n owner u w a g.machine g.telling (does_came u w _ took.found) (table_opened t f progress own false ∷ one_entry_more t ∷ ts) (opened_carries u w owner t ts a carries_here is_here g.telling few f progress own took.plain),
    )

    refused_at : (y : Refusal) → TookEntry u w owner t (Err (Refused y)) → IsForWords a.whole y → RefusedAt n owner w (t ∷ ts) y a.outcome
    refused_at y took known =
        let came = does_came u w _ took.found in
        record {
          machine = ap (λ (p : Post). p.machine) (came_post u w came) ∙ g.machine;
          telling = came_telling u w came ∙ g.telling;
          words = subst (λ k. RefusedWith k owner (told_word w) (t ∷ ts) y a.outcome) g.machine (refused_paces u w owner t ts a carries_here is_here g.telling few y known took.plain);
        }

    stopped_ends : (e : Stop) → TookEntry u w owner t (Err e) → Ends n owner w (t ∷ ts) a e
    stopped_ends (Refused y) took = λ known. refused_at y took known
    stopped_ends (Paused pauses.Due) took = never_due u w owner t ts a carries_here is_here g.telling few took.plain
    stopped_ends (Paused (pauses.Flush v y x)) took = tt
    stopped_ends (Paused (pauses.Lost x y z)) took = tt
    stopped_ends (Paused (pauses.Busy f x)) took = tt
    stopped_ends (Paused (pauses.Alive v x)) took = tt

  -- a table with nothing recorded is not taken on
  opened_to : (u w : PortValue) (t inner : TableWork) (ts us : List TableWork) (done : Bool) → inner.done ≡ 0 → Steps n owner u (inner ∷ t ∷ ts) a false → TookOn owner u (inner ∷ t ∷ ts) w us (Ok done) → Steps n owner w us a done
  opened_to u w t inner ts us done none g on =
      let same = taken_fresh owner u (inner ∷ t ∷ ts) w us (Ok done) on none in
      let off : done ≡ false = (let e = same.2 in cc) in
      subst (λ b. Steps n owner w us a b) (sym off) (subst (λ xs. Steps n owner w xs a false) (sym same.1) (subst (λ x. Steps n owner x (inner ∷ t ∷ ts) a false) (sym same.0) g))

  never_cut : (u w : PortValue) (t inner : TableWork) (ts us : List TableWork) (e : Stop) → inner.done ≡ 0 → TookOn owner u (inner ∷ t ∷ ts) w us (Err e) → ⊥
  never_cut u w t inner ts us e none on = let same = (taken_fresh owner u (inner ∷ t ∷ ts) w us (Err e) on none).2 in cc

  completed_by : (b own : Bool) (u v w : PortValue) (t outer : TableWork) (ts : List TableWork) → t.own ≡ own → Steps n owner u (t ∷ outer ∷ ts) a b → t.done ≡ 512 → MadeLive u v t → Joined v w t outer t.recorded → Steps n owner w (outer ∷ ts) a true
  completed_by b true u v w t outer ts own g full made joined =
      let off : t.recorded ≡ false = g.carries.flags.0 ∙ ap not own in
      let load = subst (λ r. Joined v w t outer r) off joined in
      let live = live_steps n owner u v t (outer ∷ ts) a b g full made own in
      let c = live.carries in
      let p : Paces n owner (told_word w) (outer ∷ ts) a = paces_same n owner (told_word v) (told_word w) (outer ∷ ts) a (same_alike (told_word w) (told_word v) (load_tells v w _ _ _ _ load.1 live.telling)) (record { on = c; settled = live.settled refl }) in
      paces_to n owner v w a live.machine live.telling (moves_came v w _ _ _ _ _ load.1) (outer ∷ ts) (subst (λ k. Paces k owner (told_word w) (outer ∷ ts) a) (sym live.machine) p)
  completed_by b false u v w t outer ts own g full made joined =
      let on : t.recorded ≡ true = g.carries.flags.0 ∙ ap not own in
      shared_steps n owner u v t (outer ∷ ts) a b g full made w own (subst (λ r. Joined v w t outer r) on joined)

  pub advanced : (b : Bool) (u : PortValue) (us : List TableWork) (w : PortValue) (xs : List TableWork) (r : Result Bool Stop) → Steps n owner u us a b → Advanced owner u us w xs r → Outcome n owner w xs a r
  advanced b _ _ _ _ _ g (recorded v w t ts few took) = recorded_steps v w t ts b g few took
  advanced b _ _ _ _ _ g (opened v u w t ts us f progress own done few took on) =
      let o = opened_steps v u t ts b g few f progress own took in
      opened_to u w (one_entry_more t) (table_opened t f progress own false) ts us done o.0 o.1 on
  advanced b _ _ _ _ _ g (cut_off v u w t ts us f progress own stop few took on) =
      let o = opened_steps v u t ts b g few f progress own took in
      absurd (never_cut u w (one_entry_more t) (table_opened t f progress own false) ts us stop o.0 on)
  advanced b _ _ _ _ _ g (unsettled v w t ts stop few took) = wait_ends a.whole _ stop (took.shows 0).1
  advanced b _ _ _ _ _ g (stopped v w t ts stop few took) = stopped_ends v w t ts b g few stop took
  advanced b _ _ _ _ _ g (completed v u w t outer ts full made joined) = completed_by b t.own v u w t outer ts refl g full made joined

  -- ---- until the only table is full
  -- the gate said yes behind an entry that is done with; or what it stops for
  abbrev pub Leads : PortValue → List TableWork → Result (Unit {0}) Stop → Type 0
  Leads w xs (Ok x) = (b : Bool) × Steps n owner w xs a b
  Leads w xs (Err (Refused y)) = IsForWords a.whole y → RefusedAt n owner w xs y a.outcome
  Leads w xs (Err (Paused pauses.Due)) = Steps n owner w xs a true
  Leads w xs (Err (Paused x)) = Unit {0}

  pub ends_lead : (w : PortValue) (xs : List TableWork) (e : Stop) → Ends n owner w xs a e → Leads w xs (Err e)
  ends_lead w xs (Refused y) ends = ends
  ends_lead w xs (Paused pauses.Due) ends = absurd ends
  ends_lead w xs (Paused (pauses.Flush v y x)) ends = tt
  ends_lead w xs (Paused (pauses.Lost x y z)) ends = tt
  ends_lead w xs (Paused (pauses.Busy f x)) ends = tt
  ends_lead w xs (Paused (pauses.Alive v x)) ends = tt

  module _ (v : PortValue) (ts : List TableWork) (b : Bool) (g : Steps n owner v ts a b) (first : List Bool) where
    pub all_filled : (w : PortValue) (xs : List TableWork) (answers : List Bool) (r : Result (Unit {0}) Stop) → Filled owner v ts first w xs answers r → Leads w xs r
    all_filled _ _ _ _ begun = (b, g)
    all_filled _ _ _ _ (unasked u w us xs done answers before step off) = let l = all_filled u us answers (Ok tt) before in (done, advanced l.0 u us w xs (Ok done) l.1 step)
    all_filled _ _ _ _ (asked u w us xs answers before step on) = let l = all_filled u us answers (Ok tt) before in (true, advanced l.0 u us w xs (Ok true) l.1 step)
    all_filled _ _ _ _ (due u w us xs answers before step on) = let l = all_filled u us answers (Ok tt) before in advanced l.0 u us w xs (Ok true) l.1 step
    all_filled _ _ _ _ (stopped u w us xs answers stop before step) = let l = all_filled u us answers (Ok tt) before in ends_lead w xs stop (advanced l.0 u us w xs (Err stop) l.1 step)
