-- Marks that record the next entry of a table in work, or shed the last one.
use Rattle.std.proofs.Common.{◌≡◌, ◌≢◌, ℕ, ◌+◌, ◌-◌, ◌<◌, ◌≤◌, if◌then◌else◌, Bool, true, false, List, length, Option, Some, None, refl, sym, ap, subst, ◌∙◌, inl, arith}
use Rattle.xp_words.specs.declared.kind.PageType.{PageType}
use Rattle.xp_words.specs.Machine.{Machine}
use Rattle.xp_words.specs.declared.place.Place.{Place}
use Rattle.xp_words.specs.declared.place.Place.TheVariants.{Cell}
use Rattle.xp_words.specs.Places.{Sizes, sizes_of}
use Rattle.xp_board.specs.declared.holdings.Made.{Made}
use Rattle.xp_board.specs.declared.holdings.Seen.{Seen}
use Rattle.xp_board.specs.declared.holdings.Unsettled.{Unsettled}
use Rattle.xp_board.specs.declared.holdings.Work.{Work}
use Rattle.xp_board.specs.declared.holdings.Holdings.{Holdings}
use Rattle.xp_board.specs.Lists.{EachOf}
use Rattle.xp_board.specs.Steps.{last_since}
use Rattle.xp_board.specs.Hands.{work_on, changed_work, surely}
use Rattle.xp_board.specs.Marks.{MayRecord, MayShed, demand_seen, unsettled_by, seen_word, leaves_unsettled}
use Rattle.xp_board.specs.Settling.{is_settled}
use Rattle.xp_board.specs.Found.{WorkFound, Found}
use Rattle.xp_board.specs.WellFormed.{SeenIs, LastIs, IsWorkFormed, WellFormed}
use Rattle.xp_board.specs.Sound.{Sound}
use Rattle.step_effects.proofs.MarkEffects.{Recorded, Shed}
use Rattle.found_rule.proofs.Growth.{Grown, stayed}
use Rattle.found_rule.proofs.ReachSame.{reach_same}
use Rattle.found_rule.proofs.KnownFacts.{RefRight, TypedRight, IsLiveAs, LiveRight, PartialRight}
use Rattle.found_rule.proofs.KnownStays.{owner_new, live_new, partial_new, live_found, partial_found}
use Rattle.found_rule.proofs.ShedFacts.{shed_live}
use Rattle.found_rule.proofs.HandFacts.{ReachKept}
use Rattle.found_rule.proofs.Demands.{RefsMoved, moved_out, moved_in}
use Rattle.found_rule.proofs.MarkLaw.{MarkKept, marked_found, marked_formed}
use Rattle.found_rule.proofs.MarkSteps.{works_marked, known_was}
use Rattle.xp_board.proofs.ListChanges.{EachOf-changes, EachOf-changed_first}
use Rattle.xp_board.proofs.Works.{one_works}
use Rattle.xp_board.proofs.WorkFacts.{seen_is}
use Rattle.xp_board.proofs.HandTypes.{refs_out, typed_out, refs_in, typed_in}
use Rattle.xp_board.proofs.Sums.{seat_same}

seen_there : (z : Sizes) (k f : ℕ) (steps : List Made) (o : Option Seen) (i w : ℕ) → SeenIs z k f steps o → o ≡ Some (record { index = i; word = w }) → last_since z k (Cell f i) steps ≡ Some (seen_word o)
seen_there z k f steps o i w h e = seen_is z k f steps o i w h e ∙ ap (λ y. Some (seen_word y)) (sym e)

module _ (z : Sizes) (m : Place → ℕ) (xs : List Made) (g : Grown z m m xs xs) (f : ℕ) where
  live_sure : (t : PageType) (u : Holdings) → u.steps ≡ xs → (sure : Bool) → (sure ≡ true → IsLiveAs m f t) → LiveRight z m xs f (Some t) (surely sure u)
  live_sure t u is true h = live_found z m m xs xs g f t (h refl)
  live_sure t u is false h = live_new z m m xs xs g f (Some t) (length u.steps) (let e = ap length is in omega arith)

  partial_sure : (u : Holdings) → u.steps ≡ xs → (sure : Bool) → PartialRight z m xs f (surely sure u)
  partial_sure u is true = partial_found z m m xs xs g f
  partial_sure u is false = partial_new z m m xs xs g f (length u.steps) (let e = ap length is in omega arith)

module _ (n : Machine) (s : ℕ) (m : Place → ℕ) (h b : ℕ → Holdings) (l : s < (sizes_of n).vcpus) (sound : Sound n m h) (others : (t : ℕ) → t ≢ s → b t ≡ h t) (f : ℕ) (change : Work → Work)
    (a : Holdings) (is : a ≡ record (h s) { works = changed_work f change (h s).works }) (moved : RefsMoved a (b s)) where
  kept : MarkKept (h s) (b s)
  kept = record {
    steps = moved.steps ∙ ap (λ u. u.steps) is;
    locks = moved.locks ∙ ap (λ u. u.locks) is;
    ending = moved.ending ∙ ap (λ u. u.ending) is;
    claimed = moved.claimed ∙ ap (λ u. u.claimed) is;
    raised = moved.raised ∙ ap (λ u. u.raised) is;
    looking = moved.looking ∙ ap (λ u. u.looking) is;
    cold = moved.cold ∙ ap (λ u. u.cold) is;
    acked = moved.acked ∙ ap (λ u. u.acked) is;
    ran = moved.ran ∙ ap (λ u. u.ran) is;
    run = moved.run ∙ ap (λ u. u.run) is;
    old0 = moved.old0 ∙ ap (λ u. u.old0) is;
    old1 = moved.old1 ∙ ap (λ u. u.old1) is;
  }

  works_are : (b s).works ≡ changed_work f change (h s).works
  works_are = moved.works ∙ ap (λ u. u.works) is

  reach : ReachKept n m m h b
  reach v g p r busy marked past =
      inl
      (reach_same (sizes_of n) m m (h v) (b v) (λ x i. refl) (seat_same (λ u. u.cache) s h b others (moved.cache ∙ ap (λ u. u.cache) is) v)
      (seat_same (λ u. u.walk) s h b others (moved.walk ∙ ap (λ u. u.walk) is) v) past)

  entry_found : ((e : Work) → WorkFound n m b (h s) e → WorkFound n m b (h s) (change e)) → EachOf (RefRight (sizes_of n) m (h s).steps) (b s).refs →
      EachOf (TypedRight (sizes_of n) m (h s).steps) (b s).typed → (t : ℕ) → t < (sizes_of n).vcpus → Found n m b t
  unfolding kept works_are reach
  entry_found changes refs typed =
      marked_found n s m h b l sound others kept reach refs typed
      (subst (λ xs. EachOf (WorkFound n m b (h s)) xs) (sym works_are)
      (EachOf-changes (WorkFound n m b (h s)) (WorkFound n m b (h s)) (λ e. e.frame) f change (h s).works (λ e at w. changes e w) (λ e w. w) (works_marked n s m h b l sound others reach)))

  entry_formed : (e : Work) → work_on f (h s).works ≡ Some e → (IsWorkFormed n (h s) e → IsWorkFormed n (h s) (change e)) → (t : ℕ) → t < (sizes_of n).vcpus → WellFormed n t (b t)
  unfolding kept works_are
  entry_formed e here changes =
      let k = sound.formed s l in
      marked_formed n s m h b l sound others kept
      (subst (λ xs. EachOf (IsWorkFormed n (h s)) xs) (sym works_are)
      (EachOf-changed_first (IsWorkFormed n (h s)) (IsWorkFormed n (h s)) (λ y. y.frame) f change e (h s).works (one_works n m h sound.alone f s l) here changes (λ y off w. w) k.works))
      (record { few = rw (moved.cache ∙ ap (λ u. u.cache) is) k.cache.few; walk = λ y q. k.cache.walk y (sym (moved.walk ∙ ap (λ u. u.walk) is) ∙ q) })
      (let q = k.turn in let r : (b s).turn ≡ (h s).turn = moved.turn ∙ ap (λ u. u.turn) is in omega arith)

-- ---- the two marks
last_by : (z : Sizes) (e : Work) (steps : List Made) (u : Unsettled) (t : Bool) → LastIs z e steps (Some u) → LastIs z e steps (if t then Some u else None)
last_by z e steps u true h = h
last_by z e steps u false h = tt

since_by : (u x : Unsettled) (t : Bool) (bound : ℕ) → u.since ≤ bound → (if t then Some u else None) ≡ Some x → x.since ≤ bound
since_by u x true bound h q = let k : u ≡ x = cc in rw (← k) h
since_by u x false bound h q = absurd cc

module _ (n : Machine) (s : ℕ) (m : Place → ℕ) (h b : ℕ → Holdings) (l : s < (sizes_of n).vcpus) (sound : Sound n m h) (others : (t : ℕ) → t ≢ s → b t ≡ h t) (f upto : ℕ) where
  record_change : Work → Work → Work
  record_change e y = record y { recorded = e.recorded + 1; unsettled = unsettled_by (sizes_of n) e (h s) }

  work_same : (e y : Work) → WorkFound n m b (h s) y → WorkFound n m b (h s) (record_change e y)
  unfolding record_change
  work_same e y w = record { word = w.word; cells = w.cells; fixed = w.fixed; passed = w.passed }

  recorded_form : (e : Work) → MayRecord n f upto (h s) e → IsWorkFormed n (h s) e → IsWorkFormed n (h s) (record_change e e)
  unfolding record_change
  recorded_form e may c =
      let steps = (h s).steps in
      let z = sizes_of n in
      record {
        recorded = let q = may.inside in omega arith;
        none = λ t. absurd (let q = may.table in cc);
        marked = c.marked;
        seen = c.seen;
        last = last_by z (record_change e e) steps (record { since = length steps; word = Some (seen_word e.seen) }) (leaves_unsettled z (h s) (demand_seen e.recorded e))
            (λ w q.
            let i : e.recorded + 1 - 1 ≡ e.recorded = omega arith in
            let k : seen_word e.seen ≡ w = cc in
            rw i (seen_there z e.unmarked e.frame steps e.seen e.recorded may.word c.seen may.seen ∙ ap Some k));
        unsettled = λ x q.
            (omega arith, since_by (record { since = length steps; word = Some (seen_word e.seen) }) x (leaves_unsettled z (h s) (demand_seen e.recorded e)) (length steps) (omega arith) q);
        was_found = c.was_found;
        fixed = c.fixed;
        order = c.order;
        past = c.past;
      }

  pub recorded_found : Recorded n f upto (h s) (b s) → (t : ℕ) → t < (sizes_of n).vcpus → Found n m b t
  unfolding record_change
  recorded_found d =
      let e = d.e in
      let a = record (h s) { works = changed_work f (record_change e) (h s).works } in
      let demand = demand_seen e.recorded e in
      let k = known_was n s m h b l sound others in
      entry_found n s m h b l sound others f (record_change e) a refl (subst (λ u. RefsMoved a u) (sym d.hand) (moved_out demand a)) (work_same e)
      (subst (λ u. EachOf (RefRight (sizes_of n) m (h s).steps) u.refs) (sym d.hand) (refs_out (RefRight (sizes_of n) m (h s).steps) demand a k.refs))
      (subst (λ u. EachOf (TypedRight (sizes_of n) m (h s).steps) u.typed) (sym d.hand) (typed_out (TypedRight (sizes_of n) m (h s).steps) demand a k.typed))

  pub recorded_formed : Recorded n f upto (h s) (b s) → (t : ℕ) → t < (sizes_of n).vcpus → WellFormed n t (b t)
  unfolding record_change
  recorded_formed d =
      let e = d.e in
      let a = record (h s) { works = changed_work f (record_change e) (h s).works } in
      let demand = demand_seen e.recorded e in
      entry_formed n s m h b l sound others f (record_change e) a refl (subst (λ u. RefsMoved a u) (sym d.hand) (moved_out demand a)) e d.may.here (recorded_form e d.may)

  -- ---- the last one comes back
  shed_change : Work → Work
  shed_change y = record y { recorded = upto; unsettled = None }

  shed_same : (y : Work) → WorkFound n m b (h s) y → WorkFound n m b (h s) (shed_change y)
  unfolding shed_change
  shed_same y w = record { word = w.word; cells = w.cells; fixed = w.fixed; passed = w.passed }

  shed_form : (e : Work) → MayShed f upto (h s) e → IsWorkFormed n (h s) e → IsWorkFormed n (h s) (shed_change e)
  unfolding shed_change
  shed_form e may c =
      record {
        recorded = let q = c.recorded in let r = may.last in omega arith;
        none = λ t. absurd (let q = may.table in cc);
        marked = c.marked;
        seen = c.seen;
        last = tt;
        unsettled = λ x q. absurd cc;
        was_found = c.was_found;
        fixed = c.fixed;
        order = c.order;
        past = c.past;
      }

  same_steps : Grown (sizes_of n) m m (h s).steps (h s).steps
  same_steps = stayed refl

  pub shed_found : Shed n f upto (h s) (b s) → (t : ℕ) → t < (sizes_of n).vcpus → Found n m b t
  unfolding shed_change same_steps
  shed_found d =
      let e = d.e in
      let a = record (h s) { works = changed_work f shed_change (h s).works } in
      let demand = demand_seen upto e in
      let z = sizes_of n in
      let xs = (h s).steps in
      let sure = is_settled z (h s) e in
      let k = known_was n s m h b l sound others in
      entry_found n s m h b l sound others f shed_change a refl (subst (λ u. RefsMoved a u) (sym d.hand) (moved_in sure demand a)) shed_same
      (subst (λ u. EachOf (RefRight z m xs) u.refs) (sym d.hand)
      (refs_in sure (RefRight z m xs) demand a (λ g. owner_new z m m xs xs same_steps g (length xs) (omega arith)) k.refs))
      (subst (λ u. EachOf (TypedRight z m xs) u.typed) (sym d.hand)
      (typed_in sure (TypedRight z m xs) demand a
      (λ g t asks. record {
        owner = owner_new z m m xs xs same_steps g (length xs) (omega arith);
        live = live_sure z m xs same_steps g t a refl sure (λ settled. shed_live n s m h l sound f upto e d.may g t settled asks);
        partial = partial_sure z m xs same_steps g a refl sure;
      }) k.typed))

  pub shed_formed : Shed n f upto (h s) (b s) → (t : ℕ) → t < (sizes_of n).vcpus → WellFormed n t (b t)
  unfolding shed_change
  shed_formed d =
      let e = d.e in
      let a = record (h s) { works = changed_work f shed_change (h s).works } in
      let demand = demand_seen upto e in
      entry_formed n s m h b l sound others f shed_change a refl (subst (λ u. RefsMoved a u) (sym d.hand) (moved_in (is_settled (sizes_of n) (h s) e) demand a)) e d.may.here (shed_form e d.may)
