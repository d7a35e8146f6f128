-- A refused acquisition leaves its tables in work, the innermost first, and names the outermost.
use Rattle.std.proofs.Common.{◌≡◌, ℕ, suc, ◌+◌, ◌-◌, ◌<◌, ◌≤◌, ◌==◌, ◌||◌, not, if◌then◌else◌, Bool, true, false, List, [], ◌∷◌, Some, refl, sym, ap, ◌∙◌, subst, arith}
use Rattle.std.proofs.lemmas.Bool.Decides.{nat_tests}
use Rattle.xp_words.specs.KindWords.{kind_fields, kind_write}
use Rattle.xp_words.specs.Machine.{Machine}
use Rattle.xp_words.specs.declared.entry.Demand.TheVariants.{Typed}
use Rattle.xp_words.specs.declared.kind.KindWord.{KindWord}
use Rattle.xp_words.specs.declared.place.Place.TheVariants.{Cell, Kind, Refs}
use Rattle.xp_words.specs.declared.reply.Refusal.{Refusal}
use Rattle.xp_board.specs.Told.{Post, PortValue, is_telling, told_word}
use Rattle.xp_board.specs.declared.step.Act.TheVariants.{Store}
use Rattle.step_maker.proofs.Coming.{came_post, moves_came}
use Rattle.step_maker.proofs.Telling.{came_telling, leaves, load_tells}
use Rattle.frame_words.specs.Plain.{put}
use Rattle.frame_types.specs.Plain.{set_kind}
use Rattle.kind_words.specs.Kinds.{partial_kind, work_kind}
use Rattle.kind_words.proofs.KindWriting.{fields_write, partial_is}
use Rattle.partial_state.specs.Levels.{level_type}
use Rattle.partial_state.proofs.LevelFacts.{level_type-table, level_type-typed}
use Rattle.partial_state.specs.declared.stack.TableWork.{TableWork}
use Rattle.table_entries.specs.Acquiring.{InnerLeft, LeftPartial, Named, OutermostLeft, Unwound, around_left}
use Rattle.table_entries.proofs.Shared.{gave_came}
use Rattle.table_law.specs.Alone.{PlainOutcome}
use Rattle.table_law.specs.Levels.{TableLeft, entry_of}
use Rattle.table_law.specs.Plain.{Describes, Plain, Share, reference_back, sober, with_kind}
use Rattle.table_law.specs.Release.{let_go}
use Rattle.table_law.specs.Stack.{IsChain, table_left}
use Rattle.table_twins.proofs.Entering.{described_leaves}
use Rattle.table_twins.proofs.Sharing.{same_back}
use Rattle.course_laws.proofs.Calling.{lent_none}
use Rattle.course_laws.proofs.Completing.{IsKinded, back_lent, described_kind, same_kinded, stored_kinded}
use Rattle.course_laws.proofs.Extras.{described_same, extra, lent, more_of}
use Rattle.course_laws.proofs.Outermost.{IsOutermost}
use Rattle.course_laws.proofs.Pacing.{Flagged, extra_own, lent_same}
use Rattle.course_laws.proofs.Stacking.{lefts, undone}
use Rattle.course_laws.proofs.Travelling.{RefusedAt}
use Rattle.course_laws.proofs.Under.{Chained, IsOff, PlainTables, above_off}
use Rattle.release_laws.specs.Pauses.{IsLeft}
use Rattle.release_laws.proofs.Liking.{IsSpent}
use Rattle.release_laws.proofs.Unwinding.{named_describes, named_kind, named_there}
use Rattle.refusal_laws.proofs.Undoing.{AreAbove, AreSpent, IsNone, chain_kind, last_parked, one_parked, park, spent_off}

-- ---- what is asked of each table
pub record Held (n : Machine) (p : Plain) (t : TableWork) : Type 0 where
  pub inside : t.frame < n.frames
  pub share : Share
  pub was : p.shares t.frame ≡ Some share
  pub some : 0 < share.count
  pub low : 1 ≤ t.level
  pub high : t.level ≤ 4
  pub few : t.done ≤ 512

abbrev pub AllHeld : Machine → Plain → List TableWork → Type 0
AllHeld n p [] = Unit {0}
AllHeld n p (t ∷ ts) = Held n p t × AllHeld n p ts

-- what is left at a port, which comes to q where all these tables are undone
pub record Undoes (n : Machine) (u : PortValue) (ts : List TableWork) (q : Plain) : Type 0 where
  pub machine : u.post.machine ≡ n
  pub telling : is_telling u ≡ true
  pub plain : Plain
  pub describes : Describes n (told_word u) (lent (extra ts) plain)
  pub held : AllHeld n plain ts
  pub above : AreAbove (lefts ts)
  pub spent : AreSpent (lefts ts) plain
  pub chain : IsChain (lefts ts) plain
  pub flags : Flagged ts
  pub comes : undone (lefts ts) plain ≡ q

-- ---- of the tables in work
off_none : (t : TableWork) (ts : List TableWork) → IsOff ts t.frame → IsNone (table_left t.frame (t.level - 1) (512 - t.done)) (lefts ts)
off_none t [] off = tt
off_none t (o ∷ ts) off = (off.0, off_none t ts off.1)

work_spent : (k : KindWord) (l : ℕ) → k ≡ work_kind (level_type l) false 0 → IsSpent k
work_spent k l is = subst IsSpent (sym is) (record { none = refl; whole = refl })

module _ (n : Machine) (owner : ℕ) (p : Plain) where
  all_held : (ts : List TableWork) → PlainTables n owner p ts → AllHeld n p ts
  all_held [] all = tt
  all_held (t ∷ ts) all = let b = all.0 in (record { inside = b.inside; share = b.share; was = b.was; some = b.some; low = b.low; high = b.high; few = b.few }, all_held ts all.2)

  all_spent : (ts : List TableWork) → PlainTables n owner p ts → AreSpent (lefts ts) p
  all_spent [] all = tt
  all_spent (t ∷ ts) all = (work_spent (p.kinds t.frame) t.level all.0.work, off_none t ts (above_off n owner p t.frame t.level ts all.0.high all.0.work all.1 all.2), all_spent ts all.2)

  all_above : (ts : List TableWork) → PlainTables n owner p ts → Chained p ts → AreAbove (lefts ts)
  all_above [] all c = tt
  all_above (t ∷ []) all c = tt
  all_above (t ∷ o ∷ ts) all c =
      let low = all.0.low in
      let high = c.0.0 in
      let some = c.0.1 in
      (omega arith, omega arith, all_above (o ∷ ts) all.2 c.1)

  all_chained : (ts : List TableWork) → PlainTables n owner p ts → Chained p ts → IsChain (lefts ts) p
  all_chained [] all c = tt
  all_chained (t ∷ []) all c = let high = all.0.high in omega arith
  all_chained (t ∷ o ∷ ts) all c =
      let above = c.0.0 in
      let some = c.0.1 in
      let few = all.2.0.few in
      let level : suc (o.level - 1) ≡ o.level = omega arith in
      let index : 511 - (512 - o.done) ≡ o.done - 1 = omega arith in
      let below : t.level ≡ o.level - 1 = omega arith in (
        ap (λ l. entry_of p (level_type l) o.frame (511 - (512 - o.done))) level ∙ (ap (λ i. entry_of p (level_type o.level) o.frame i) index ∙ (c.0.2 ∙ ap (λ l. Typed t.frame (level_type l)) below)),
        all_chained (o ∷ ts) all.2 c.1,
      )

pub undoes : (n : Machine) (owner : ℕ) (u : PortValue) (ts : List TableWork) (y : Refusal) (a : PlainOutcome) → RefusedAt n owner u ts y a → Undoes n u ts a.left
undoes n owner u ts y a r =
    let s = r.words in
    record {
      machine = r.machine;
      telling = r.telling;
      plain = s.plain;
      describes = s.describes;
      held = all_held n owner s.plain ts s.tables;
      above = all_above n owner s.plain ts s.tables s.chain;
      spent = all_spent n owner s.plain ts s.tables;
      chain = all_chained n owner s.plain ts s.tables s.chain;
      flags = s.flags;
      comes = sym (ap (λ (o : PlainOutcome). o.left) s.is);
    }

-- ---- a table is stored as partial
held_kind : (n : Machine) (f : ℕ) (k : KindWord) (p : Plain) (ts : List TableWork) → AllHeld n p ts → AllHeld n (with_kind f k p) ts
held_kind n f k p [] all = tt
held_kind n f k p (t ∷ ts) all = let b = all.0 in (record { inside = b.inside; share = b.share; was = b.was; some = b.some; low = b.low; high = b.high; few = b.few }, held_kind n f k p ts all.1)

module _ (n : Machine) (v u : PortValue) (t : TableWork) (x : ℕ → ℕ) (p : Plain) (telling : is_telling v ≡ true) (held : Held n p t) (d : Describes n (told_word v) (lent x p)) (a : LeftPartial v u t) where
  abbrev kind : KindWord
  kind = partial_kind (level_type t.level) false false t.done 0

  pub written : kind_fields (kind_write kind) ≡ kind
  written = fields_write kind (partial_is (level_type t.level) (level_type-typed t.level) false t.done (level_type-table t.level held.low) held.few)

  kinded : IsKinded (told_word v) (told_word u) t.frame (kind_write kind)
  kinded =
      let all = leaves v u (Kind t.frame) (Store (kind_write kind)) _ _ a.0 a.1 telling in
      same_kinded (told_word v) (set_kind t.frame kind (told_word v)) (told_word u) t.frame (kind_write kind) (stored_kinded (told_word v) t.frame kind) (λ h. all (Refs h)) (λ h i. all (Cell h i)) (λ h. all (Kind h))

  pub stored : Describes n (told_word u) (lent x (with_kind t.frame kind p))
  stored = described_kind n (told_word v) (told_word u) (lent x p) t.frame (kind_write kind) kind kinded (sym (ap sober written)) d

  pub stored_word : kind_fields (told_word u (Kind t.frame)) ≡ kind
  stored_word = ap kind_fields (kinded.kinds t.frame ∙ ap (λ b. if b then kind_write kind else told_word v (Kind t.frame)) (let e : (t.frame == t.frame) ≡ true = grind (arith, nat_tests) in e)) ∙ written

  -- as the plain value has it
  pub is_park : with_kind t.frame kind p ≡ park (table_left t.frame (t.level - 1) (512 - t.done)) p
  is_park =
      let low = held.low in
      let few = held.few in
      let level : t.level ≡ suc (t.level - 1) = omega arith in
      let count : t.done ≡ 512 - (512 - t.done) = omega arith in
      ap (λ l. with_kind t.frame (partial_kind (level_type l) false false t.done 0) p) level ∙ ap (λ k. with_kind t.frame (partial_kind (level_type (suc (t.level - 1))) false false k 0) p) count

-- ---- one inside another
module _ (n : Machine) (q : Plain) (v : PortValue) (t o : TableWork) (ts : List TableWork) (s : Undoes n v (t ∷ o ∷ ts) q) where
  abbrev parked : Plain
  parked = with_kind t.frame (partial_kind (level_type t.level) false false t.done 0) s.plain

  abbrev left_of : TableWork → TableLeft
  left_of k = table_left k.frame (k.level - 1) (512 - k.done)

  inner_to : (mid u : PortValue) → LeftPartial v mid t → u.post.machine ≡ n → is_telling u ≡ true → Describes n (told_word u) (lent (extra (o ∷ ts)) parked) → Undoes n u (o ∷ ts) q
  inner_to mid u partial machine telling describes =
      let kind = partial_kind (level_type t.level) false false t.done 0 in
      let high : o.level - 1 ≡ suc (t.level - 1) = (let e = s.above.0 in omega arith) in
      record {
        machine = machine;
        telling = telling;
        plain = parked;
        describes = describes;
        held = held_kind n t.frame kind s.plain (o ∷ ts) s.held.1;
        above = s.above.2;
        spent = spent_off (left_of t) kind s.plain (lefts (o ∷ ts)) s.spent.1 s.spent.2;
        chain = chain_kind (left_of t) kind s.plain (lefts (o ∷ ts)) s.chain.1;
        flags = s.flags.1;
        comes = ap (undone (lefts (o ∷ ts))) (is_park n v mid t (extra (t ∷ o ∷ ts)) s.plain s.telling s.held.0 s.describes partial)
            ∙ (one_parked (left_of t) (left_of o) (lefts ts) s.plain s.above.0 s.above.1 (s.chain.0 ∙ ap (λ l. Typed t.frame (level_type l)) high) s.spent.0 ∙ s.comes);
      }

  inner_by : (own : Bool) (u : PortValue) → t.own ≡ own → InnerLeft v u t o t.own → Undoes n u (o ∷ ts) q × (around_left t o ≡ o)
  inner_by true u own left =
      let l = (subst (λ b. InnerLeft v u t o b) own left).1 in
      let mid = l.0 in
      let came = moves_came v mid _ _ _ _ _ l.1.1 in
      let telling = came_telling v mid came ∙ s.telling in
      let load = l.2.1 in
      let moved = moves_came mid u _ _ _ _ _ load in
      let stored = stored n v mid t (extra (t ∷ o ∷ ts)) s.plain s.telling s.held.0 s.describes l.1 in (
        inner_to mid u l.1 (ap (λ (p : Post). p.machine) (came_post mid u moved) ∙ (ap (λ (p : Post). p.machine) (came_post v mid came) ∙ s.machine)) (came_telling mid u moved ∙ telling)
            (described_leaves n u (told_word mid) (lent (extra (o ∷ ts)) parked) (load_tells mid u _ _ _ _ load telling)
            (described_same n (told_word mid) (lent (extra (t ∷ o ∷ ts)) parked) (lent (extra (o ∷ ts)) parked) (lent_same (extra (t ∷ o ∷ ts)) (extra (o ∷ ts)) parked (λ g. sym (extra_own t (o ∷ ts) own g))) stored)),
        ap (λ b. if b || t.recorded then o else record o { done = o.done - 1 }) own,
      )
  inner_by false u own left =
      let on : t.recorded ≡ true = s.flags.0 ∙ ap not own in
      let l = subst (λ b. InnerLeft v u t o b) own left in
      let mid = l.0 in
      let came = moves_came v mid _ _ _ _ _ l.1.1 in
      let telling = came_telling v mid came ∙ s.telling in
      let moved = gave_came mid u t.frame l.2 in
      let here = s.held.0 in
      let all = lent (extra (t ∷ o ∷ ts)) parked in
      let share : Share = record { owner = here.share.owner; allocated = here.share.allocated; count = here.share.count + extra (t ∷ o ∷ ts) t.frame } in
      let stored = stored n v mid t (extra (t ∷ o ∷ ts)) s.plain s.telling s.held.0 s.describes l.1 in (
        inner_to mid u l.1 (ap (λ (p : Post). p.machine) (came_post mid u moved) ∙ (ap (λ (p : Post). p.machine) (came_post v mid came) ∙ s.machine)) (came_telling mid u moved ∙ telling)
            (described_same n (told_word u) (reference_back t.frame all) (lent (extra (o ∷ ts)) parked) (back_lent t (o ∷ ts) own parked here.share here.was here.some)
            (described_leaves n u (put t.frame (told_word mid)) (reference_back t.frame all) (l.2.plain telling) (same_back n (told_word mid) all t.frame share stored here.inside (ap (more_of (extra (t ∷ o ∷ ts) t.frame)) here.was)))),
        ap (λ b. if b || t.recorded then o else record o { done = o.done - 1 }) own ∙ ap (λ b. if b then o else record o { done = o.done - 1 }) on,
      )

-- ---- the outermost
module _ (n : Machine) (f level : ℕ) (q : Plain) where
  last_left : (v u w : PortValue) (t : TableWork) → (t.frame ≡ f) × (t.level ≡ level) → Undoes n v (t ∷ []) q → LeftPartial v u t → Named u w t.frame → IsLeft n w f level q
  last_left v u w t is s partial names =
      let here = s.held.0 in
      let kind = partial_kind (level_type t.level) false false t.done 0 in
      let p1 = with_kind t.frame kind s.plain in
      let came = moves_came v u _ _ _ _ _ partial.1 in
      let moved = moves_came u w _ _ _ _ _ names in
      let telling = came_telling v u came ∙ s.telling in
      let own = lent_same (extra (t ∷ [])) (extra []) p1 (λ g. sym (extra_own t [] s.flags.0 g)) in
      let stored = described_same n (told_word u) (lent (extra []) p1) p1 (lent_none p1) (described_same n (told_word u) (lent (extra (t ∷ [])) p1) (lent (extra []) p1) own (stored n v u t (extra (t ∷ [])) s.plain s.telling here s.describes partial)) in
      let level_is : t.level ≡ suc (t.level - 1) = (let low = here.low in omega arith) in
      let parks = is_park n v u t (extra (t ∷ [])) s.plain s.telling here s.describes partial in
      let goes : let_go t.level t.frame p1 ≡ q =
      ap (λ l. let_go l t.frame p1) level_is ∙ (ap (let_go (suc (t.level - 1)) t.frame) parks ∙ (last_parked (table_left t.frame (t.level - 1) (512 - t.done)) s.plain s.spent.0 ∙ s.comes)) in
      record {
        machine = ap (λ (p : Post). p.machine) (came_post u w moved) ∙ (ap (λ (p : Post). p.machine) (came_post v u came) ∙ s.machine);
        telling = came_telling u w moved ∙ telling;
        plain = p1;
        describes = named_describes n u w t.frame p1 telling stored names;
        held = t.done;
        few = here.few;
        stamp = 0;
        word = subst (λ l. kind_fields (told_word w (Kind f)) ≡ partial_kind (level_type l) false false t.done 0) is.1
            (subst (λ g. kind_fields (told_word w (Kind g)) ≡ kind) is.0 (named_kind n u w t.frame p1 telling stored names t.frame ∙ stored_word n v u t (extra (t ∷ [])) s.plain s.telling here s.describes partial));
        inside = subst (λ g. g < n.frames) is.0 here.inside;
        low = subst (λ l. 1 ≤ l) is.1 here.low;
        high = subst (λ l. l ≤ 4) is.1 here.high;
        left = subst (λ l. let_go l f p1 ≡ q) is.1 (subst (λ g. let_go t.level g p1 ≡ q) is.0 goes);
        named = named_there n u w t.frame p1 telling stored names ∙ ap (λ g. g + 1) is.0;
      }

  pub all_left : (owner : ℕ) (ts : List TableWork) (t : TableWork) (v w : PortValue) → Undoes n v (t ∷ ts) q → IsOutermost f level (t ∷ ts) → Unwound v owner (t ∷ ts) false w → IsLeft n w f level q
  all_left owner [] t v w s outer left = let l = subst (λ b. OutermostLeft v w owner t b false) s.flags.0 left in last_left v l.0 w t outer s l.1 l.2
  all_left owner (o ∷ ts) t v w s outer left =
      let b = inner_by n q v t o ts s t.own left.0 refl left.1 in
      all_left owner ts o left.0 w b.0 outer (subst (λ k. Unwound left.0 owner (k ∷ ts) false w) b.1 left.2)
