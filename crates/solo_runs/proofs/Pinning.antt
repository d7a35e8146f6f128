-- A turn whose operation is one pin: what is before the pin's own steps changes no word of a frame, so the pin is decided by the words with which the turn began.
use Rattle.std.proofs.Common.{◌≡◌, ◌≢◌, ℕ, ◌+◌, ◌<◌, ◌≤◌, Bool, true, false, List, [], ◌∷◌, ◌++◌, Option, Some, None, Result, Ok, Err, refl, sym, ap, ◌∙◌, subst, inl, inr, length, arith}
use Rattle.std.specs.Prelude.{◌↔◌}
use Rattle.xp_words.specs.KindWords.{kind_fields}
use Rattle.xp_words.specs.Machine.{Machine}
use Rattle.xp_words.specs.Places.{flushed_of}
use Rattle.xp_words.specs.declared.kind.PageType.{PageType}
use Rattle.xp_words.specs.declared.ops.Call.TheVariants as calls
use Rattle.xp_words.specs.declared.ops.ExtOp.{ExtOp}
use Rattle.xp_words.specs.declared.ops.Op.{Op}
use Rattle.xp_words.specs.declared.ops.Op.TheVariants as ops
use Rattle.xp_words.specs.declared.place.Place.{Place}
use Rattle.xp_words.specs.declared.place.Place.TheVariants.{Cell, Clock, Kind, Life, Refs}
use Rattle.xp_words.specs.declared.reply.LogLine.{LogLine}
use Rattle.xp_words.specs.declared.reply.Refusal.{Refusal}
use Rattle.xp_words.specs.declared.reply.Reply.{Reply}
use Rattle.xp_words.specs.declared.reply.Stop.{Stop}
use Rattle.xp_words.specs.declared.reply.Stop.TheVariants.{Refused, Paused}
use Rattle.xp_board.specs.Acts.{left_by}
use Rattle.xp_board.specs.Lawful.{Lawful}
use Rattle.xp_board.specs.Readings.{domain_of, is_dead, ref_count}
use Rattle.xp_board.specs.Told.{Post, PortValue, is_telling, told_word}
use Rattle.xp_board.specs.declared.step.Act.TheVariants.{Load}
use Rattle.xp_board.specs.declared.step.StepKind.TheVariants as kinds
use Rattle.xp_preempt.specs.Gates.{yeses}
use Rattle.xp_preempt.proofs.Consulting.{yeses_then}
use Rattle.step_maker.specs.Moves.{Came, Moves}
use Rattle.step_maker.specs.Plain.{Words}
use Rattle.step_maker.proofs.Coming.{came_post, came_trans, met_after, met_before, moves_came}
use Rattle.step_maker.proofs.Telling.{came_telling, load_tells, told_here, told_there}
use Rattle.answer_laws.specs.Alone.{IsAlone}
use Rattle.answer_laws.proofs.Shared.{alone_telling}
use Rattle.flush_words.specs.Flushing as flushes
use Rattle.partial_state.specs.Levels.{level_type}
use Rattle.table_words.specs.OldWords.{old_place}
use Rattle.table_words.specs.declared.old_words.OldWord.{OldWord}
use Rattle.table_words.specs.declared.old_words.OldWord.TheVariants.{First, Second}
use Rattle.table_law.specs.Lawful.{IsAtRest}
use Rattle.table_law.specs.Plain.{Describes, plain_of, share_of, sober}
use Rattle.table_law.proofs.OnWords.{lawful_plain, lawful_words}
use Rattle.course_laws.specs.Courses.{ClockGoesOn}
use Rattle.course_laws.proofs.Awaiting.{AloneStays}
use Rattle.level_release.specs.Course as release
use Rattle.level_release.specs.Course.{Settled, SettledOne}
use Rattle.mmuext_ops.specs.Course.{IsPinnedAs, Performed, Pinned}
use Rattle.mmuext_ops.specs.Elements.{ext_element}
use Rattle.mmuext_ops.specs.declared.element.Element.{Element}
use Rattle.mmuext_ops.specs.declared.element.Element.TheVariants.{Pin}
use Rattle.tlb_walks.proofs.Flushes.{acks_came}
use Rattle.turn_measures.proofs.Beginning.{begins_leaves}
use Rattle.vcpu_turn.specs.Cpus.{OfExt, Processing, begun, end_of, next_of, nothing_left, reply_of}
use Rattle.vcpu_turn.specs.Ext.{ExtFits, Performs}
use Rattle.vcpu_turn.specs.Lists as lists
use Rattle.vcpu_turn.specs.Lists.{DidItems, Fitting, WorksOn, WorksThrough}
use Rattle.vcpu_turn.specs.Settling as settling
use Rattle.vcpu_turn.specs.Settling.{Settles, SettlesFirst}
use Rattle.vcpu_turn.specs.Turning as turning
use Rattle.vcpu_turn.specs.Turning.{Begins, DoesNext, DoesTurn, GoesBy, IsTurn}
use Rattle.vcpu_turn.specs.Working.{WentOn, Works, valued}
use Rattle.vcpu_turn.specs.declared.cpu.CallNumber.{CallNumber}
use Rattle.vcpu_turn.specs.declared.cpu.Progress.{Progress}
use Rattle.vcpu_turn.specs.declared.cpu.TurnEnd.{TurnEnd}
use Rattle.vcpu_turn.specs.declared.cpu.TurnEnd.TheVariants as ends
use Rattle.vcpu_turn.proofs.Turns.{begins_came}
use Rattle.vcpu_turn.proofs.TurnSteps.{ends_came}
use Rattle.solo_runs.specs.Pins.{BeginsWithPin}

-- ---- words that are the same but for the clock and the words of flushes have the same frames, old words and lives
-- the words of frames are the same
record SameFrames (m x : Words) : Type 0 where
  pub refs : (g : ℕ) → x (Refs g) ≡ m (Refs g)
  pub kinds : (g : ℕ) → x (Kind g) ≡ m (Kind g)
  pub cells : (g i : ℕ) → x (Cell g i) ≡ m (Cell g i)

described_by : (n : Machine) (m x : Words) → SameFrames m x → Describes n x (plain_of m)
described_by n m x same =
    record {
      shares = λ g inside. ap share_of (sym (same.refs g));
      kinds = λ g inside. ap (λ w. sober (kind_fields w)) (sym (same.kinds g));
      cells = λ g i inside low. sym (same.cells g i);
    }

-- a tree is as lawful
lawful_by : (n : Machine) (owner f : ℕ) (t : PageType) (m x : Words) → SameFrames m x → Lawful n owner m f t → Lawful n owner x f t
lawful_by n owner f t m x same law =
    lawful_words n owner f t x (plain_of m) (described_by n m x same) (lawful_plain n owner f t m (plain_of m) (described_by n m m (record { refs = λ g. refl; kinds = λ g. refl; cells = λ g i. refl })) law)

same_back : (m x : Words) → SameFrames m x → SameFrames x m
same_back m x same = record { refs = λ g. sym (same.refs g); kinds = λ g. sym (same.kinds g); cells = λ g i. sym (same.cells g i) }

-- and words at rest stay so
rest_by : (n : Machine) (m x : Words) → SameFrames m x → IsAtRest n m → IsAtRest n x
rest_by n m x same rest =
    record {
      formed = λ g inside. subst (λ w. is_dead (kind_fields w) ≡ false → (kind_fields w).validated ≡ true) (sym (same.kinds g)) (rest.formed g inside);
      counted = λ g inside. subst (λ w. (kind_fields w).validated ≡ true → 0 < (kind_fields w).number) (sym (same.kinds g)) (rest.counted g inside);
      room = λ g inside. subst (λ w. ref_count w ≤ n.limit) (sym (same.refs g)) (rest.room g inside);
    }

-- the life word is found as it was
begins_finds : (v w : PortValue) (d run life : ℕ) → Begins v w d run life → is_telling v ≡ true → life ≡ told_word v (Life d)
unfolding left_by
begins_finds v w d run life b telling =
    let looked = came_trans v b.acked b.looked (acks_came v b.acked b.acks) (moves_came b.acked b.looked _ _ _ _ _ b.running) in
    let here : told_word w (Life d) ≡ life = told_here b.looked w _ _ _ _ _ b.lives (came_telling v b.looked looked ∙ telling) in
    sym here ∙ begins_leaves v w d run life b telling (Life d) (λ same. absurd cc) (λ same. absurd cc)

-- ---- what changes no word
record ChangesNothing (v w : PortValue) : Type 0 where
  pub came : Came v w
  pub words : (q : Place) → told_word w q ≡ told_word v q

nothing_then : (v u w : PortValue) → ChangesNothing v u → ChangesNothing u w → ChangesNothing v w
nothing_then v u w a b = record { came = came_trans v u w a.came b.came; words = λ q. b.words q ∙ a.words q }

-- neither old word names a frame
record HasSettled (v : PortValue) : Type 0 where
  pub telling : is_telling v ≡ true
  pub first : told_word v (old_place v.post.vcpu First) ≡ 0
  pub second : told_word v (old_place v.post.vcpu Second) ≡ 0

settled_on : (v w : PortValue) → ChangesNothing v w → HasSettled v → HasSettled w
settled_on v w a s =
    let post = sym (came_post v w a.came) in
    record {
      telling = came_telling v w a.came ∙ s.telling;
      first = subst (λ (p : Post). told_word w (old_place p.vcpu First) ≡ 0) post (a.words _ ∙ s.first);
      second = subst (λ (p : Post). told_word w (old_place p.vcpu Second) ≡ 0) post (a.words _ ∙ s.second);
    }

-- ---- such old words are settled without a change, and that is never paused
record SettlesNothing (v w : PortValue) (r : Result (Unit {0}) Stop) : Type 0 where
  pub done : r ≡ Ok tt
  pub same : ChangesNothing v w

module _ (v : PortValue) (which : OldWord) (telling : is_telling v ≡ true) (none : told_word v (old_place v.post.vcpu which) ≡ 0) where
  found_none : (a : PortValue) (f : ℕ) → Moves v a (old_place v.post.vcpu which) Load kinds.Look None (f + 1) → ⊥
  found_none a f look = let e = told_there v a _ Load kinds.Look None (f + 1) look telling in omega (arith, e, none)

  one_settled : (below : Option ℕ) (w : PortValue) (answers : List Bool) (r : Result (Unit {0}) Stop) → SettledOne below v which w answers r → SettlesNothing v w r
  one_settled below _ _ _ (release.SettledOne.none w look) = record { done = refl; same = record { came = moves_came v w _ _ _ _ _ look; words = load_tells v w _ _ _ _ look telling } }
  one_settled below _ _ _ (release.SettledOne.live a b c w f word answers answer look take see form released) = absurd (found_none a f look)
  one_settled below _ _ _ (release.SettledOne.partial a b c d w f word answers answer look take see form resume done) = absurd (found_none a f look)
  one_settled below _ _ _ (release.SettledOne.lost a b c d w f word found look take see form resume other again) = absurd (found_none a f look)
  one_settled below _ _ _ (release.SettledOne.busy a b c w f word look take see unlive whole again) = absurd (found_none a f look)

both_settled : (below : Option ℕ) (v w : PortValue) (answers : List Bool) (r : Result (Unit {0}) Stop) → HasSettled v → Settled below v w answers r → SettlesNothing v w r
both_settled below v _ _ _ s (release.Settled.first w answers stop one) = one_settled v First s.telling s.first below w answers (Err stop) one
both_settled below v _ _ _ s (release.Settled.both u w answers more answer one two) =
    let a = one_settled v First s.telling s.first below u answers (Ok tt) one in
    let t = settled_on v u a.same s in
    let b = one_settled u Second t.telling t.second None w more answer two in
    record { done = b.done; same = nothing_then v u w a.same b.same }

never_stops : (below : Option ℕ) (v w : PortValue) (answers : List Bool) (stop : Stop) → HasSettled v → Settles below v w answers (Err stop) → ⊥
never_stops below v w answers stop s settles = let e = (both_settled below v w answers (Err stop) s settles.course).done in cc

-- ---- an element that is a pin, with what is settled in front of it
-- From a port behind v, with its words, the frame is pinned; and the gate is asked no more within that.
record PinsFrom (v w : PortValue) (d f level : ℕ) (answers : List Bool) (answer : Result (Unit {0}) Stop) : Type 0 where
  pub at : PortValue
  pub same : ChangesNothing v at
  pub asked : List Bool
  pub few : yeses answers ≡ 0 → yeses asked ≡ 0
  pub pinned : Pinned at w d f level asked answer

yes_early : (early answers : List Bool) → yeses (answers ++ early) ≡ 0 → yeses answers ≡ 0
yes_early early answers none = let both = yeses_then early answers in omega (arith, none, both)

pins_later : (v w : PortValue) (d f level : ℕ) (early answers : List Bool) (answer : Result (Unit {0}) Stop) → PinsFrom v w d f level answers answer → PinsFrom v w d f level (answers ++ early) answer
pins_later v w d f level early answers answer p = record { at = p.at; same = p.same; asked = p.asked; few = λ none. p.few (yes_early early answers none); pinned = p.pinned }

pins_behind : (v u w : PortValue) (d f level : ℕ) (answers : List Bool) (answer : Result (Unit {0}) Stop) → ChangesNothing v u → PinsFrom u w d f level answers answer → PinsFrom v w d f level answers answer
pins_behind v u w d f level answers answer same p = record { at = p.at; same = nothing_then v u p.at same p.same; asked = p.asked; few = p.few; pinned = p.pinned }

first_pins : (v w : PortValue) (d f level : ℕ) (e : Element) (answers : List Bool) (answer : Result (Unit {0}) Stop) → e ≡ Pin f level → HasSettled v → SettlesFirst (Performs d e None) v w answers answer → PinsFrom v w d f level answers answer
first_pins v _ d f level e _ _ is s (settling.SettlesFirst.unsettled w answers stop settles) = absurd (never_stops None v w answers stop s settles)
first_pins v _ d f level e _ _ is s (settling.SettlesFirst.performed u w early answers answer settles does) =
    record {
      at = u;
      same = (both_settled None v u early (Ok tt) s settles.course).same;
      asked = answers;
      few = yes_early early answers;
      pinned = subst (λ (x : Element). Performed u w d x None answers answer) is does.course;
    }

-- ---- a list of that one element
-- nothing is done in front of its last element
did_none : (fits : Fitting) (v : PortValue) (k : ℕ) (u : PortValue) (answers : List Bool) → DidItems fits 1 0 v k u answers → (k ≡ 0) × (u ≡ v)
did_none fits v _ _ _ lists.DidItems.none = (refl, refl)
did_none fits v _ _ _ (lists.DidItems.more k u w answers asked did fit less) = absurd (omega (arith, less))

module _ (d f level : ℕ) (op : ExtOp) (is : ext_element op ≡ Pin f level) where
  abbrev fits : Fitting
  fits = ExtFits d (op ∷ []) 0 None

  item_pins : (v u w : PortValue) (k : ℕ) (asked : List Bool) (answer : Result (Unit {0}) Stop) → HasSettled v → (k ≡ 0) × (u ≡ v) → fits k u w asked answer → PinsFrom v w d f level asked answer
  item_pins v u w k asked answer s none fit =
      first_pins v w d f level (ext_element op) asked answer is s
      (subst (λ (x : PortValue). SettlesFirst (Performs d (ext_element op) None) x w asked answer) none.1 (subst (λ j. fits j u w asked answer) none.0 fit))

  -- one element is done where the pin is
  works_pins : (v : PortValue) (to : ℕ) (w : PortValue) (answers : List Bool) (answer : Result (Unit {0}) Stop) → HasSettled v → WorksOn fits 1 0 v to w answers answer → PinsFrom v w d f level answers answer × (answer ≡ Ok tt → to ≡ 1)
  works_pins v _ _ _ _ s (lists.WorksOn.all_done at) = absurd (omega (arith, at))
  works_pins v _ _ _ _ s (lists.WorksOn.last_done k u w answers asked did fit at) =
      (pins_later v w d f level answers asked (Ok tt) (item_pins v u w k asked (Ok tt) s (did_none fits v k u answers did) fit), λ done. at)
  works_pins v _ _ _ _ s (lists.WorksOn.due k u w answers asked did fit less) = absurd (omega (arith, less))
  works_pins v _ _ _ _ s (lists.WorksOn.stopped k u w answers asked e did fit less) =
      (pins_later v w d f level answers asked (Err e) (item_pins v u w k asked (Err e) s (did_none fits v k u answers did) fit), λ done. absurd cc)

  list_pins : (v : PortValue) (to : ℕ) (w : PortValue) (answers : List Bool) (answer : Result (Unit {0}) Stop) → HasSettled v → WorksThrough fits 1 v 0 to w answers answer → PinsFrom v w d f level answers answer × (answer ≡ Ok tt → to ≡ 1)
  list_pins v to w answers answer s (inl many) = absurd (let long = many.0 in omega (arith, long))
  list_pins v to w answers answer s (inr on) = works_pins v to w answers answer s on.1

-- ---- the turn
-- it answers that one element is done exactly where the pin is
record TurnPins (v w : PortValue) (d f level : ℕ) (answers : List Bool) (end : TurnEnd) : Type 0 where
  pub ended : Result (Unit {0}) Stop
  pub pins : PinsFrom v w d f level answers ended
  pub says : ended ≡ Ok tt → end ≡ ends.Answered (reply_of 1 0 None)
  pub only : end ≡ ends.Answered (reply_of 1 0 None) → ended ≡ Ok tt

done_says : (ended : Result (Unit {0}) Stop) (to : ℕ) → (ended ≡ Ok tt → to ≡ 1) → ended ≡ Ok tt → end_of to (valued ended) ≡ ends.Answered (reply_of 1 0 None)
done_says (Ok done) to one is = ap (λ k. ends.Answered (reply_of k 0 None)) (one is)
done_says (Err e) to one is = absurd cc

says_done : (ended : Result (Unit {0}) Stop) (to : ℕ) → end_of to (valued ended) ≡ ends.Answered (reply_of 1 0 None) → ended ≡ Ok tt
says_done (Ok done) to is = refl
says_done (Err (Refused r)) to is =
    let reply : reply_of to 0 (Some r) ≡ reply_of 1 0 None = cc in
    let refusal : ◌≡◌ {A = Option Refusal} (Some r) None = ap (λ (y : Reply). y.refusal) reply in
    absurd cc
says_done (Err (Paused p)) to is = absurd cc

-- the operation
went_pins : (d f level : ℕ) (op : ExtOp) (number : CallNumber) (v w : PortValue) (from to : Progress) (log log' : List LogLine) (answers : List Bool) (answer : Result ℕ Stop) (end : TurnEnd) → ext_element op ≡ Pin f level → from ≡ begun → HasSettled v →
    WentOn d (Some (OfExt (op ∷ []))) number v from to w log log' answers answer → end ≡ end_of to.done answer → TurnPins v w d f level answers end
went_pins d f level op number v w from to log log' answers answer end is fresh s went end_is =
    let works : Works d (Some (OfExt (op ∷ []))) None v 0 to.done w answers answer = subst (λ (p : Progress). Works d (Some (OfExt (op ∷ []))) p.awaited v p.done to.done w answers answer) fresh went.works in
    let list = list_pins d f level op is v to.done w answers works.ended s works.works in
    let same : end ≡ end_of to.done (valued works.ended) = end_is ∙ ap (end_of to.done) works.answer_is in
    record {
      ended = works.ended;
      pins = list.0;
      says = λ done. same ∙ done_says works.ended to.done list.1 done;
      only = λ told. says_done works.ended to.done (sym same ∙ told);
    }

later_pins : (v u w : PortValue) (d f level : ℕ) (early answers : List Bool) (end : TurnEnd) → ChangesNothing v u → TurnPins u w d f level answers end → TurnPins v w d f level (answers ++ early) end
later_pins v u w d f level early answers end same p =
    record { ended = p.ended; pins = pins_later v w d f level early answers p.ended (pins_behind v u w d f level answers p.ended same p.pins); says = p.says; only = p.only }

-- what the turn does between its beginning and its end
does_pins : (c : Processing) (o : Option Op) (op : ExtOp) (f level run life : ℕ) (v : PortValue) (c' : Processing) (w : PortValue) (answers : List Bool) (end : TurnEnd) → o ≡ Some (ops.One (calls.Ext (op ∷ []))) → ext_element op ≡ Pin f level → c.at ≡ begun → HasSettled v →
    (does : DoesTurn c o v c' w answers end) → GoesBy does run life → life ≡ 0 → TurnPins v w c.domain f level answers end
does_pins c o op f level run life v _ _ _ _ is pins fresh s (turning.DoesTurn.unsettled w answers p settles) goes lives = absurd (never_stops c.left v w answers (Paused p) s settles)
does_pins c o op f level run life v _ _ _ _ is pins fresh s (turning.DoesTurn.settled u w c' early answers end settles does) goes lives =
    let same = (both_settled c.left v u early (Ok tt) s settles.course).same in
    let on = subst (λ (x : Option Op). DoesNext (nothing_left c) x c' u w answers end) is does in
    later_pins v u w c.domain f level early answers end same (went_pins c.domain f level op _ u w c.at on.to c.log on.log answers on.answer end pins fresh (settled_on v u same s) on.went on.end_is)
does_pins c o op f level run life v _ _ _ _ is pins fresh s (turning.DoesTurn.dying found w c' end dead dies) goes lives = absurd (dead (goes ∙ lives))

-- ---- all of it
-- the law of pin_laws
abbrev pub PinsWhereLawful : Type 0
PinsWhereLawful = (v w : PortValue) (f level : ℕ) (answers : List Bool) (answer : Result (Unit {0}) Stop) → IsAlone v → length v.post.machine.vcpu_domain ≡ 1 → IsAtRest v.post.machine (told_word v) → 1 ≤ level → level ≤ 4 →
    (IsPinnedAs level (told_word v (Kind f)) → ⊥) → Pinned v w (domain_of v.post.machine v.post.vcpu) f level answers answer → yeses answers ≡ 0 → ClockGoesOn v w →
    (Lawful v.post.machine (domain_of v.post.machine v.post.vcpu) (told_word v) f (level_type level) ↔ answer ≡ Ok tt)

module _ (stays : AloneStays) (law : PinsWhereLawful) (c c' : Processing) (end : TurnEnd) (v w : PortValue) (f level : ℕ) (answers : List Bool) (b : BeginsWithPin v c f level) (t : IsTurn c c' end v w answers) (none : yeses answers ≡ 0) (goes : ClockGoesOn v w) where
  telling : is_telling v ≡ true
  telling = alone_telling v b.alone

  begin_came : Came v t.begun
  begin_came = begins_came v t.begun t.begins

  begin_settled : HasSettled t.begun
  begin_settled =
      let post = sym (came_post v t.begun begin_came) in
      let keeps = begins_leaves v t.begun c.domain t.run t.life t.begins telling in
      record {
        telling = came_telling v t.begun begin_came ∙ telling;
        first = subst (λ (p : Post). told_word t.begun (old_place p.vcpu First) ≡ 0) post (keeps (old_place v.post.vcpu First) (λ e. absurd cc) (λ e. absurd cc) ∙ b.first);
        second = subst (λ (p : Post). told_word t.begun (old_place p.vcpu Second) ≡ 0) post (keeps (old_place v.post.vcpu Second) (λ e. absurd cc) (λ e. absurd cc) ∙ b.second);
      }

  life_found : t.life ≡ 0
  life_found = begins_finds v t.begun c.domain t.run t.life t.begins telling ∙ ap (λ d. told_word v (Life d)) b.port.domain ∙ b.lives

  made : TurnPins t.begun t.worked c.domain f level answers end
  made = does_pins c (next_of c) b.op f level t.run t.life t.begun c' t.worked answers end b.next b.pins b.begins begin_settled t.does t.goes life_found

  -- the port at which the pin's own steps begin
  abbrev at : PortValue
  at = made.pins.at

  at_came : Came v at
  at_came = came_trans v t.begun at begin_came made.pins.same.came

  at_post : at.post ≡ v.post
  at_post = came_post v at at_came

  at_keeps : (q : Place) → q ≢ Clock → q ≢ flushed_of v.post.vcpu → told_word at q ≡ told_word v q
  at_keeps q off away = made.pins.same.words q ∙ begins_leaves v t.begun c.domain t.run t.life t.begins telling q off away

  at_frames : SameFrames (told_word v) (told_word at)
  at_frames = record { refs = λ g. at_keeps (Refs g) (λ e. absurd cc) (λ e. absurd cc); kinds = λ g. at_keeps (Kind g) (λ e. absurd cc) (λ e. absurd cc); cells = λ g i. at_keeps (Cell g i) (λ e. absurd cc) (λ e. absurd cc) }

  at_goes : ClockGoesOn at t.worked
  at_goes m met = goes m (met_after v at w m at_came (met_before at t.worked w m met (ends_came end t.worked w t.ends)))

  at_pinned : Pinned at t.worked (domain_of at.post.machine at.post.vcpu) f level made.pins.asked made.ended
  at_pinned = subst (λ d. Pinned at t.worked d f level made.pins.asked made.ended) (b.port.domain ∙ ap (λ (p : Post). domain_of p.machine p.vcpu) (sym at_post)) made.pins.pinned

  at_law : Lawful at.post.machine (domain_of at.post.machine at.post.vcpu) (told_word at) f (level_type level) ↔ made.ended ≡ Ok tt
  at_law =
      law at t.worked f level made.pins.asked made.ended (stays v at b.alone at_came) (subst (λ (p : Post). length p.machine.vcpu_domain ≡ 1) (sym at_post) b.only)
      (subst (λ (p : Post). IsAtRest p.machine (told_word at)) (sym at_post) (rest_by v.post.machine (told_word v) (told_word at) at_frames b.rest)) b.low b.high
      (λ same. b.free (subst (IsPinnedAs level) (at_frames.kinds f) same)) at_pinned (made.pins.few none) at_goes

  abbrev IsLawful : Words → Type 0
  IsLawful m = Lawful v.post.machine (domain_of v.post.machine v.post.vcpu) m f (level_type level)

  began_lawful : IsLawful (told_word v) ↔ IsLawful (told_word at)
  began_lawful =
      let one = lawful_by v.post.machine (domain_of v.post.machine v.post.vcpu) f (level_type level) in
      (one (told_word v) (told_word at) at_frames, one (told_word at) (told_word v) (same_back (told_word v) (told_word at) at_frames))

  decides : IsLawful (told_word at) ↔ made.ended ≡ Ok tt
  decides = subst (λ (p : Post). Lawful p.machine (domain_of p.machine p.vcpu) (told_word at) f (level_type level) ↔ made.ended ≡ Ok tt) at_post at_law

  pub turn_pins : IsLawful (told_word v) ↔ end ≡ ends.Answered (reply_of 1 0 None)
  turn_pins = (λ is. made.says (decides.0 (began_lawful.0 is)), λ told. began_lawful.1 (decides.1 (made.only told)))
