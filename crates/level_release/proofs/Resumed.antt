-- The frame that an old word named was found partial, and comes into work again with its type count in hand.
use Rattle.std.proofs.Common.{◌≡◌, ℕ, ◌+◌, ◌^◌, ◌<◌, ◌≤◌, ◌&&◌, nat_lt, not, Bool, true, false, [], ◌∷◌, length, None, Some, Result, Err, IsTrue, refl, sym, ap, ◌∙◌, subst, arith, inl}
use Rattle.std.proofs.lemmas.Bool.{and_parts}
use Rattle.std.proofs.lemmas.Bool.Decides.{nat_tests}
use Rattle.xp_words.specs.KindWords.{is_kind, kind_fields, kind_read, kind_write}
use Rattle.xp_words.specs.Machine.{IsMachine}
use Rattle.xp_words.specs.PageTypes.{is_none, is_table}
use Rattle.xp_words.specs.Places.{sizes_of}
use Rattle.xp_words.specs.declared.kind.KindWord.{KindWord}
use Rattle.xp_words.specs.declared.place.Place.TheVariants.{Clock, Kind, Refs}
use Rattle.xp_words.specs.declared.reply.Stop.{Stop}
use Rattle.xp_board.specs.Hands.{refs_to, typed_owner, typed_to, without_work, work_on}
use Rattle.xp_board.specs.KindSteps.{new_work, resumed_kind, unsettled_from}
use Rattle.xp_board.specs.Knowledge.{knows_owner, tells_owner}
use Rattle.xp_board.specs.Readings.{is_partial, is_work}
use Rattle.xp_board.specs.Told.{Post, PortValue}
use Rattle.xp_board.specs.declared.holdings.Holdings.{Holdings}
use Rattle.xp_board.specs.declared.holdings.OwnerFound.TheVariants as owners
use Rattle.xp_board.specs.declared.holdings.Reference.{Reference}
use Rattle.xp_board.specs.declared.holdings.TypedReference.{TypedReference}
use Rattle.xp_board.specs.declared.holdings.Work.{Work}
use Rattle.xp_board.specs.declared.step.Act.TheVariants.{Cas, Load}
use Rattle.xp_board.specs.declared.step.StepKind.TheVariants as kinds
use Rattle.xp_board.proofs.KindForms.{PartialForm, fields_of, partial_form}
use Rattle.xp_board.proofs.KindReadings.{partial_parts, resumed_in_work}
use Rattle.xp_board.proofs.ListCounts.{newest_held}
use Rattle.step_maker.specs.Holds.{Holds, MayWork, Same, still}
use Rattle.step_maker.specs.Moves.{Came, Moves}
use Rattle.flush_words.proofs.Lasting.{moves_longer}
use Rattle.flush_words.proofs.Shared.{may_held}
use Rattle.frame_words.specs.Freeing.{gave}
use Rattle.frame_words.specs.Refs.{MayPut}
use Rattle.kind_words.specs.Kinds.{MayLeave, dead_kind, left, looked_at, resumed_work}
use Rattle.kind_words.proofs.KindFacts.{clock_is_small, read_is}
use Rattle.kind_words.proofs.KindHands.{apart_spares, clock_since, resumed_fields, resumed_unkept, typed_held, work_here}
use Rattle.kind_words.proofs.Leaving.{left_dead, may_leave_dead, without_newest}
use Rattle.partial_state.specs.Levels.{level_type}
use Rattle.table_releases.specs.Found.{has_recorded}
use Rattle.table_words.specs.OldWords.{kept_in_old}
use Rattle.table_words.specs.declared.old_words.OldWord.{OldWord}
use Rattle.table_words.specs.declared.old_words.OldWord.TheVariants.{First}
use Rattle.level_release.specs.Course.{resumed_table}
use Rattle.level_release.specs.Holding.{AreInRelease, Empties, IsReleasedWork, LeavesEmptied, LeavesUnheld}
use Rattle.level_release.specs.Settling.{TookOld}
use Rattle.level_release.proofs.Counted.{unkept}
use Rattle.kind_words.proofs.KindHands.{no_work}
use Rattle.level_release.proofs.Handing.{emptied_leaves, now_beside}
use Rattle.level_release.proofs.Owning.{known_by_typed, look_tells}
use Rattle.level_release.proofs.Taken.{named_again, named_later, named_ref, named_since, taken_held, took_looking, took_typed, took_works}
use Rattle.table_entries.proofs.Shared.{no_looks as looks_none}

-- no mark where something is recorded
unmarked_by : (u : Bool) (n : ℕ) → (u ≡ true → n ≡ 0) → 0 < n → u ≡ false
unmarked_by true n none some = let zero = none refl in absurd (omega (arith, zero, some))
unmarked_by false n none some = refl

-- ---- whether it is a table of which something is recorded
pub recorded_some : (k : KindWord) → has_recorded k.kind k ≡ true → IsTrue (is_table k.kind) × (0 < k.progress)
recorded_some k has = let both = and_parts (is_table k.kind) (nat_lt 0 k.progress) has in (both.0, grind (arith, nat_tests))

recorded_by : (table : Bool) {n : ℕ} → (table ≡ false → n ≡ 0) → (table && nat_lt 0 n) ≡ false → n ≡ 0
recorded_by true page none = grind (arith, nat_tests)
recorded_by false page none = page refl

pub recorded_none : (word : ℕ) {k : KindWord} → kind_read word ≡ Some k → IsTrue (is_partial k) → has_recorded k.kind k ≡ false → k.progress ≡ 0
recorded_none word {k} read partial none =
    let form = partial_form word k read (partial_parts k partial).0 (partial_parts k partial).1 in recorded_by (is_table k.kind) (λ page. (form.page page).0) none

pub recorded_most : (word : ℕ) {k : KindWord} → kind_read word ≡ Some k → IsTrue (is_partial k) → k.progress ≤ 512
recorded_most word {k} read partial = let form = partial_form word k read (partial_parts k partial).0 (partial_parts k partial).1 in let below = form.progress in omega (arith, below)

module _ {u v : PortValue} {which : OldWord} {f word : ℕ} (t : TookOld u v which f word) {k : KindWord} (read : kind_read word ≡ Some k) (partial : IsTrue (is_partial k)) where
  fields : kind_fields word ≡ k
  fields = fields_of word k read

  form : PartialForm k
  form = partial_form word k read (partial_parts k partial).0 (partial_parts k partial).1

  spelled : IsTrue (is_kind k)
  spelled = (read_is word k read).0

  pub mark_off : k.kept ≡ false
  mark_off = subst (λ (y : KindWord). y.kept ≡ false) fields (unkept t.kind.finds (taken_held t) (subst (λ y. IsTrue (is_partial y)) (sym fields) partial))

  abbrev pub item : Work
  item = new_work f (kind_write (resumed_kind k)) k.progress (unsettled_from k.progress v.holdings) v.holdings

  pub item_fields : kind_fields item.word ≡ resumed_kind k
  item_fields = resumed_fields k spelled partial

  pub working : IsTrue (is_work (kind_fields item.word))
  working = subst (λ y. IsTrue (is_work y)) (sym item_fields) (resumed_in_work k partial)

  -- ---- an exchange that was lost changes nothing
  pub lost_typed : (d : PortValue) (found : ℕ) → Holds v d (looked_at f found v.holdings) → Holds v d v.holdings
  lost_typed d found hand = hand ∙ ap (λ xs. still (record v { holdings = record v.holdings { looking = xs } })) (looks_none f found v.holdings.looking (took_looking t))

  pub lost_named : (d w : PortValue) (found : ℕ) (e : Stop) → Holds v d (looked_at f found v.holdings) → Holds d w (kept_in_old First f d.holdings) → LeavesUnheld v w f (Err e)
  lost_named d w found e hand kept =
      let same = lost_typed d found hand in
      named_again d w e (ap (λ (q : PortValue). q.holdings.typed) same ∙ took_typed t) refl kept ∙ ap (λ (q : PortValue). still
      (record q { holdings = record q.holdings { typed = []; old0 = Some (f + 1) } })) same

  module _ {d : PortValue} (change : Moves v d (Kind f) (Cas (kind_write k) (kind_write (resumed_kind k))) kinds.Kind None (kind_write k)) (hand : Holds v d (resumed_work f k v.holdings)) where
    resumed_hand : Holds v d (record v.holdings { works = item ∷ v.holdings.works })
    resumed_hand =
        hand ∙ ap (λ h. still (record v { holdings = h })) (resumed_unkept f k v.holdings mark_off) ∙ ap
        (λ xs. still (record v { holdings = record v.holdings { looking = xs; works = item ∷ v.holdings.works } })) (looks_none f (kind_write (resumed_kind k)) v.holdings.looking (took_looking t))

    pub resumed_may : MayWork v → MayWork d
    resumed_may may = may_held v d (record v.holdings { works = item ∷ v.holdings.works }) resumed_hand refl refl may

    pub resumed_room : v.holdings.old0 ≡ Some 0 → d.holdings.old0 ≡ Some 0
    resumed_room room = ap (λ (q : PortValue). q.holdings.old0) resumed_hand ∙ room

    resumed_typed : d.holdings.typed ≡ named_ref f (named_since t) ∷ []
    resumed_typed = ap (λ (q : PortValue). q.holdings.typed) resumed_hand ∙ took_typed t

    longer : length d.holdings.steps ≡ length v.holdings.steps + 1
    longer = moves_longer v d (Kind f) (Cas (kind_write k) (kind_write (resumed_kind k))) kinds.Kind None (kind_write k) change

    -- ---- a table of which something is recorded is emptied, behind a look at its reference word
    module _ {x : PortValue} {refs_word : ℕ} (look : Moves d x (Refs f) Load kinds.Look None refs_word) (same : Same d x) (level : ℕ) (is : level_type level ≡ k.kind) (low : 1 ≤ level) (high : level ≤ 4) (some : 0 < k.progress) where
      looked_hand : Holds v x (record v.holdings { works = item ∷ v.holdings.works })
      looked_hand = same ∙ resumed_hand

      one_work : x.holdings.works ≡ item ∷ []
      one_work = ap (λ (q : PortValue). q.holdings.works) looked_hand ∙ ap (λ ws. item ∷ ws) (took_works t)

      one_typed : x.holdings.typed ≡ named_ref f (named_since t) ∷ []
      one_typed = ap (λ (q : PortValue). q.holdings.typed) looked_hand ∙ took_typed t

      same_post : x.post ≡ v.post
      same_post = ap (λ (q : PortValue). q.post) looked_hand

      held_named : 0 < refs_to f d.holdings.refs + typed_to f d.holdings.typed
      held_named = omega (arith, (subst (λ ys. 0 < typed_to f ys) (sym resumed_typed) (typed_held f (named_ref f (named_since t)) [] refl)))

      since_made : named_since t ≤ length d.holdings.steps
      since_made = omega (arith, (named_later t), longer)

      owner_tells : (o : ℕ) × IsTrue (knows_owner (sizes_of x.post.machine) f o x.holdings)
      owner_tells =
          let told = look_tells look held_named (owners.Since (named_since t)) since_made in (
            told.0,
            known_by_typed (sizes_of x.post.machine) told.0 x.holdings one_typed refl
                (subst (λ (q : Post). IsTrue (tells_owner (sizes_of q.machine) x.holdings.steps f told.0 (owners.Since (named_since t)))) (sym (ap (λ (q : PortValue). q.post) same)) told.1),
          )

      few : k.progress ≤ 512
      few = let below = form.progress in omega (arith, below)

      resumed_work_is : (frame : f < v.post.machine.frames) → IsReleasedWork (sizes_of x.post.machine) (length x.holdings.steps) (resumed_table f level k) item
      resumed_work_is frame =
          let most = few in
          let more = longer in
          let on = moves_longer d x (Refs f) Load kinds.Look None refs_word look in
          record {
            inside = subst (λ (q : Post). f < q.machine.frames) (sym same_post) frame;
            frame = refl;
            kind = ap (λ (y : KindWord). y.kind) item_fields ∙ sym is;
            unmarked = ap (λ (y : KindWord). y.unflushed) item_fields ∙ unmarked_by k.unflushed k.progress form.marked some;
            recorded = omega (arith, most);
            work = λ own. working;
            closing = λ lent. absurd cc;
            earlier = omega (arith, more, on);
          }

      pub resumed_empties : f < v.post.machine.frames → Empties (record v.holdings { typed = [] }) x (resumed_table f level k ∷ [])
      resumed_empties frame =
          record {
            works = took_works t;
            typed = refl;
            looking = took_looking t;
            stack = (record { low = low; high = high; done = omega arith }, tt, tt);
            tables = subst (λ ws. AreInRelease (sizes_of x.post.machine) (length x.holdings.steps) None (resumed_table f level k ∷ []) ws) (sym one_work) (resumed_work_is frame, tt, tt);
            refs = ap (λ (q : PortValue). q.holdings.refs) looked_hand;
            types = (named_ref f (named_since t), [], refl, omega (arith, since_made, (moves_longer d x (Refs f) Load kinds.Look None refs_word look)), one_typed, refl);
            owner = owner_tells.0;
            owned = (owner_tells.1, tt);
            hand = now_beside v x (record v.holdings { typed = [] }) v.holdings.refs v.holdings.typed (item ∷ v.holdings.works) looked_hand;
          }

      pub resumed_released : f < v.post.machine.frames → (w : PortValue) (answer : Result (Unit {0}) Stop) → Came x w → LeavesEmptied x w (resumed_table f level k) answer → LeavesUnheld v w f answer
      resumed_released frame w answer came left = emptied_leaves v w same_post came (resumed_empties frame) answer left

    -- ---- any other frame is dead, with its mark as it was found, and a clock value that was found then
    module _ {a : PortValue} {clock : ℕ} (look : Moves d a Clock Load kinds.Look None clock) (same : Same d a) where
      clocked_hand : Holds v a (record v.holdings { works = item ∷ v.holdings.works })
      clocked_hand = same ∙ resumed_hand

      pub at_a : work_on f a.holdings.works ≡ Some item
      at_a = work_here f item v.holdings.works a.holdings.works refl (ap (λ (q : PortValue). q.holdings.works) clocked_hand)

      typed_a : a.holdings.typed ≡ named_ref f (named_since t) ∷ []
      typed_a = ap (λ (q : PortValue). q.holdings.typed) same ∙ resumed_typed

      small : clock < 2 ^ 36
      small = clock_is_small d.post.machine d.post.vcpu d.holdings clock look.finds

      typed_kind : IsTrue (not (is_none k.kind))
      typed_kind = rw form.typed refl

      pub dead_may : k.progress ≡ 0 → MayLeave a f (dead_kind k.kind k.unflushed clock)
      dead_may none =
          may_leave_dead a f k.kind item at_a typed_kind k.unflushed clock (ap (λ (y : KindWord). y.kind) item_fields) none (inl (sym (ap (λ (y : KindWord). y.unflushed) item_fields))) small
          (clock_since d a clock (length v.holdings.steps + 1) look (omega (arith, longer))) (λ work. subst (λ ys. 0 < typed_to f ys) (sym typed_a)
          (typed_held f (named_ref f (named_since t)) [] refl))

      abbrev back_ref : Reference
      back_ref = record { frame = f; owner = typed_owner f a.holdings }

      module _ (e : PortValue) (dead : Holds a e (left a f (dead_kind k.kind k.unflushed clock))) where
        dead_hand : Holds v e (record v.holdings { refs = back_ref ∷ v.holdings.refs; typed = []; works = v.holdings.works })
        dead_hand =
            dead ∙ ap (λ (h : Holdings). still (record a { holdings = h })) (left_dead a f k.kind item at_a typed_kind k.unflushed clock small working)
            ∙ ap (λ ys. still (record a { holdings = record a.holdings { refs = back_ref ∷ a.holdings.refs; typed = ys; works = without_work f a.holdings.works } })) (without_newest (λ (y : TypedReference). y.frame) f (named_ref f (named_since t)) [] a.holdings.typed refl typed_a)
            ∙ ap (λ ws. still (record a { holdings = record a.holdings { refs = back_ref ∷ a.holdings.refs; typed = []; works = ws } }))
            (without_newest (λ (y : Work). y.frame) f item v.holdings.works a.holdings.works refl (ap (λ (q : PortValue). q.holdings.works) clocked_hand))
            ∙ ap (λ (q : PortValue). still (record q { holdings = record q.holdings { refs = back_ref ∷ q.holdings.refs; typed = []; works = v.holdings.works } })) clocked_hand

        pub dead_work : MayWork v → MayWork e
        dead_work may =
            record {
              running = ap (λ (q : PortValue). q.holdings.run) dead_hand ∙ may.running;
              no_walk = ap (λ (q : PortValue). q.holdings.walk) dead_hand ∙ may.no_walk;
              machine = subst (λ (p : Post). IsMachine p.machine) (sym (ap (λ (q : PortValue). q.post) dead_hand)) may.machine;
            }

        pub dead_gives : MayPut f e.holdings
        dead_gives =
            record {
              held = subst (λ rs. 0 < refs_to f rs) (sym (ap (λ (q : PortValue). q.holdings.refs) dead_hand)) (newest_held f back_ref v.holdings.refs refl);
              spares = apart_spares f e.holdings (no_work f e.holdings.works (ap (λ (q : PortValue). q.holdings.works) dead_hand ∙ took_works t));
            }

        pub dead_released : (w : PortValue) → Holds e w (gave f e.holdings) → Holds v w (record v.holdings { typed = [] })
        dead_released w put =
            put ∙ ap (λ (q : PortValue). still (record q { holdings = gave f q.holdings })) dead_hand
            ∙ ap (λ rs. still (record v { holdings = record v.holdings { refs = rs; typed = [] } })) (without_newest (λ (y : Reference). y.frame) f back_ref v.holdings.refs _ refl refl)
