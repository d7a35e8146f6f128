-- A partial descriptor page with its `kept` mark comes into work, and is dead with a clock value that was found then.
use Rattle.std.proofs.Common.{◌≡◌, ℕ, ◌+◌, ◌^◌, ◌<◌, not, Bool, true, false, List, [], ◌∷◌, length, Some, None, Ok, IsTrue, refl, sym, ap, ◌∙◌, subst, arith, inl}
use Rattle.std.proofs.lemmas.List.Elements.{All-nil}
use Rattle.xp_words.specs.KindWords.{kind_fields, kind_read, kind_write}
use Rattle.xp_words.specs.Machine.{IsMachine}
use Rattle.xp_words.specs.PageTypes.{is_none, is_table}
use Rattle.xp_words.specs.declared.kind.KindWord.{KindWord}
use Rattle.xp_words.specs.declared.kind.PageType.{PageType}
use Rattle.xp_words.specs.declared.kind.PageType.TheVariants.{Desc}
use Rattle.xp_words.specs.declared.place.Place.TheVariants.{Clock, Kind}
use Rattle.xp_board.specs.Hands.{refs_to, ref_owner, typed_owner, typed_to, without_work, work_on}
use Rattle.xp_board.specs.KindSteps.{new_work, resumed_kind, unsettled_from}
use Rattle.xp_board.specs.Readings.{is_partial, is_work}
use Rattle.xp_board.specs.Told.{Post, PortValue}
use Rattle.xp_board.specs.declared.holdings.Holdings.{Holdings}
use Rattle.xp_board.specs.declared.holdings.Liveness.TheVariants as lives
use Rattle.xp_board.specs.declared.holdings.Looking.{Looking}
use Rattle.xp_board.specs.declared.holdings.Reference.{Reference}
use Rattle.xp_board.specs.declared.holdings.TypedReference.{TypedReference}
use Rattle.xp_board.specs.declared.holdings.Work.{Work}
use Rattle.xp_board.specs.declared.step.Act.TheVariants.{Cas, Load, Store}
use Rattle.xp_board.specs.declared.step.StepKind.TheVariants as kinds
use Rattle.xp_board.proofs.KindForms.{PartialForm, fields_of, partial_form}
use Rattle.xp_board.proofs.KindReadings.{partial_parts, resumed_in_work}
use Rattle.xp_board.proofs.ListCounts.{newest_held}
use Rattle.step_maker.specs.Answers.{Serves, Unpins, only_if}
use Rattle.step_maker.specs.Asked.{of_back}
use Rattle.step_maker.specs.Holds.{Holds, MayWork, Rests, Same, still}
use Rattle.step_maker.specs.Moves.{Came, Moves}
use Rattle.step_maker.specs.Visits.{Does, Then}
use Rattle.step_maker.proofs.Coming.{came_trans, moves_came}
use Rattle.step_maker.proofs.Keeping.{kept_type}
use Rattle.step_maker.proofs.Piecing.{serves_back, serves_came, serves_step}
use Rattle.step_maker.proofs.Resting.{same_rests}
use Rattle.flush_words.proofs.Lasting.{moves_longer}
use Rattle.frame_words.specs.Freeing.{PutBy, Puts, gave}
use Rattle.frame_words.specs.Refs.{MayPut}
use Rattle.frame_types.specs.Found.{Dies}
use Rattle.frame_types.proofs.Serving.{work_alive}
use Rattle.kind_words.specs.Kinds.{MayLeave, dead_kind, left, resumed_work}
use Rattle.kind_words.proofs.KindFacts.{clock_is_small, read_is, work_word}
use Rattle.kind_words.proofs.KindHands.{apart_spares, clock_since, no_work, resumed_fields, resumed_kept, typed_held, work_here}
use Rattle.kind_words.proofs.KindWriting.{fields_write}
use Rattle.kind_words.proofs.Leaving.{left_dead, may_leave_dead, without_newest}
use Rattle.level_release.proofs.SettlingSteps.{dead_steps}
use Rattle.domain_destroy.specs.Asking.{IsDestroyDeed, of_domain}
use Rattle.domain_destroy.specs.Clearing.{SawOwn}
use Rattle.domain_destroy.specs.Clearing as clearing
use Rattle.domain_destroy.specs.Destroying.{TookMarks}
use Rattle.domain_destroy.specs.Emptying.{NamesNone}
use Rattle.domain_destroy.proofs.Marked.{TakesOff, done_steps, done_unkept, done_unpinned, kept_partial, saw_asked, takes_page}
use Rattle.domain_destroy.proofs.Parts.{same_names_none, same_settled}
use Rattle.table_entries.proofs.Shared.{no_looks}

module _ {v a : PortValue} {f : ℕ} (x : ℕ) {k : KindWord} (read : kind_read x ≡ Some k) (plain : k.pinned ≡ false) (on : k.kept ≡ true) (page : k.kind ≡ Desc) (rests : Rests v)
    (change : Moves v a (Kind f) (Cas (kind_write k) (kind_write (resumed_kind k))) kinds.Kind None (kind_write k)) (hand : Holds v a (resumed_work f k v.holdings)) where
  partial : IsTrue (is_partial k)
  partial = kept_partial x k read on

  form : PartialForm k
  form = partial_form x k read (partial_parts k partial).0 (partial_parts k partial).1

  bare : k.progress ≡ 0
  bare = (form.page (ap (λ t. is_table t) page)).0

  typed_kind : IsTrue (not (is_none k.kind))
  typed_kind = rw form.typed refl

  abbrev count : TypedReference
  count = record { frame = f; kind = Some k.kind; owner = ref_owner f v.holdings; live = lives.Since (length v.holdings.steps) }

  abbrev item : Work
  item = new_work f (kind_write (resumed_kind k)) k.progress (unsettled_from k.progress v.holdings) v.holdings

  item_fields : kind_fields item.word ≡ resumed_kind k
  item_fields = resumed_fields k (read_is x k read).0 partial

  working : IsTrue (is_work (kind_fields item.word))
  working = subst (λ y. IsTrue (is_work y)) (sym item_fields) (resumed_in_work k partial)

  resumed_hand : Holds v a (record v.holdings { typed = count ∷ []; works = item ∷ [] })
  resumed_hand =
      hand ∙ ap (λ h. still (record v { holdings = h })) (resumed_kept f k v.holdings on)
      ∙ ap (λ (xs : List Looking). still (record v { holdings = record v.holdings { looking = xs; typed = count ∷ v.holdings.typed; works = item ∷ v.holdings.works } })) (no_looks f (kind_write (resumed_kind k)) v.holdings.looking rests.empty.looking)
      ∙ ap (λ (ts : List TypedReference). still (record v { holdings = record v.holdings { typed = count ∷ ts; works = item ∷ v.holdings.works } })) rests.empty.typed
      ∙ ap (λ (ws : List Work). still (record v { holdings = record v.holdings { typed = count ∷ []; works = item ∷ ws } })) rests.empty.works

  longer : length a.holdings.steps ≡ length v.holdings.steps + 1
  longer = moves_longer v a (Kind f) (Cas (kind_write k) (kind_write (resumed_kind k))) kinds.Kind None (kind_write k) change

  works_by : (b : PortValue) → b.post ≡ v.post → b.holdings.run ≡ v.holdings.run → b.holdings.walk ≡ v.holdings.walk → MayWork b
  works_by b post run walk =
      record {
        running = run ∙ rests.may.running;
        no_walk = walk ∙ rests.may.no_walk;
        machine = subst (λ (p : Post). IsMachine p.machine) (sym post) rests.may.machine;
      }

  module _ {b : PortValue} {clock : ℕ} (look : Moves a b Clock Load kinds.Look None clock) (same : Same a b) where
    clocked_hand : Holds v b (record v.holdings { typed = count ∷ []; works = item ∷ [] })
    clocked_hand = same ∙ resumed_hand

    works_b : b.holdings.works ≡ item ∷ []
    works_b = ap (λ (q : PortValue). q.holdings.works) clocked_hand

    typed_b : b.holdings.typed ≡ count ∷ []
    typed_b = ap (λ (q : PortValue). q.holdings.typed) clocked_hand

    at_b : work_on f b.holdings.works ≡ Some item
    at_b = work_here f item [] b.holdings.works refl works_b

    small : clock < 2 ^ 36
    small = clock_is_small a.post.machine a.post.vcpu a.holdings clock look.finds

    pub page_work : MayWork b
    page_work = works_by b (ap (λ (q : PortValue). q.post) clocked_hand) (ap (λ (q : PortValue). q.holdings.run) clocked_hand) (ap (λ (q : PortValue). q.holdings.walk) clocked_hand)

    pub page_leaves : MayLeave b f (dead_kind k.kind k.unflushed clock)
    page_leaves =
        may_leave_dead b f k.kind item at_b typed_kind k.unflushed clock (ap (λ (y : KindWord). y.kind) item_fields) bare (inl (sym (ap (λ (y : KindWord). y.unflushed) item_fields))) small
        (clock_since a b clock (length v.holdings.steps + 1) look (omega (arith, longer))) (λ work. subst (λ ys. 0 < typed_to f ys) (sym typed_b) (typed_held f count [] refl))

    abbrev back_ref : Reference
    back_ref = record { frame = f; owner = typed_owner f b.holdings }

    module _ (e : PortValue) (dead : Holds b e (left b f (dead_kind k.kind k.unflushed clock))) where
      dead_hand : Holds v e (record v.holdings { refs = back_ref ∷ v.holdings.refs; typed = []; works = [] })
      dead_hand =
          dead ∙ ap (λ (h : Holdings). still (record b { holdings = h })) (left_dead b f k.kind item at_b typed_kind k.unflushed clock small working)
          ∙ ap (λ ys. still (record b { holdings = record b.holdings { refs = back_ref ∷ b.holdings.refs; typed = ys; works = without_work f b.holdings.works } })) (without_newest (λ (y : TypedReference). y.frame) f count [] b.holdings.typed refl typed_b)
          ∙ ap (λ ws. still (record b { holdings = record b.holdings { refs = back_ref ∷ b.holdings.refs; typed = []; works = ws } })) (without_newest (λ (y : Work). y.frame) f item [] b.holdings.works refl works_b)
          ∙ ap (λ (q : PortValue). still (record q { holdings = record q.holdings { refs = back_ref ∷ q.holdings.refs; typed = []; works = [] } })) clocked_hand

      pub page_dead_work : MayWork e
      page_dead_work = works_by e (ap (λ (q : PortValue). q.post) dead_hand) (ap (λ (q : PortValue). q.holdings.run) dead_hand) (ap (λ (q : PortValue). q.holdings.walk) dead_hand)

      pub page_gives : MayPut f e.holdings
      page_gives =
          record {
            held = subst (λ rs. 0 < refs_to f rs) (sym (ap (λ (q : PortValue). q.holdings.refs) dead_hand)) (newest_held f back_ref v.holdings.refs refl);
            spares = apart_spares f e.holdings (no_work f e.holdings.works (ap (λ (q : PortValue). q.holdings.works) dead_hand));
          }

      module _ (w : PortValue) {y : ℕ} (store : Moves b e (Kind f) (Store (kind_write (dead_kind k.kind k.unflushed clock))) kinds.Kind None y) (gives : Holds e w (gave f e.holdings)) (back : Serves e w (of_back f) []) (puts : Puts e w f) where
        page_same : Same v w
        page_same =
            gives ∙ ap (λ (q : PortValue). still (record q { holdings = gave f q.holdings })) dead_hand
            ∙ ap (λ rs. still (record v { holdings = record v.holdings { refs = rs; typed = []; works = [] } })) (without_newest (λ (y : Reference). y.frame) f back_ref v.holdings.refs _ refl refl)
            ∙ ap (λ ts. still (record v { holdings = record v.holdings { typed = ts; works = [] } })) (sym rests.empty.typed)
            ∙ ap (λ ws. still (record v { holdings = record v.holdings { works = ws } })) (sym rests.empty.works)

        off : TakesOff x k (resumed_kind k)
        off = takes_page x read plain on page

        was : kind_write k ≡ x
        was = sym (read_is x k read).1

        try : Moves v a (Kind f) (Cas x (kind_write (resumed_kind k))) kinds.Kind None x
        try = subst (λ z. Moves v a (Kind f) (Cas z (kind_write (resumed_kind k))) kinds.Kind None z) was change

        came_a : Came v a
        came_a = moves_came v a (Kind f) (Cas x (kind_write (resumed_kind k))) kinds.Kind None x try

        came_e : Came a e
        came_e = came_trans a b e (moves_came a b Clock Load kinds.Look None clock look) (moves_came b e (Kind f) (Store (kind_write (dead_kind k.kind k.unflushed clock))) kinds.Kind None y store)

        came_w : Came a w
        came_w = came_trans a e w came_e (serves_came e w (of_back f) [] back)

        module _ {u : PortValue} {d : ℕ} (saw : SawOwn u v d f x) (rose : Bool) where
          resumed_serves : Serves u a (of_domain u.post.machine d rose) []
          resumed_serves = subst (Serves u a (of_domain u.post.machine d rose)) (ap (λ on. only_if on (Unpins f)) plain) (done_steps saw off try refl rose)

          dead_serves : Serves u e (of_domain u.post.machine d rose) []
          dead_serves =
              serves_step u b e (of_domain u.post.machine d rose) [] (Kind f) (Store (kind_write (dead_kind k.kind k.unflushed clock))) kinds.Kind None y
              (serves_step u a b (of_domain u.post.machine d rose) [] Clock Load kinds.Look None clock resumed_serves look tt) store (
                saw_asked saw e rose (came_trans v a e came_a came_e),
                kept_type y (kind_write (dead_kind k.kind k.unflushed clock)) (kind_fields item.word) (dead_kind k.kind k.unflushed clock) (ap (λ z. kind_fields z) (work_word b.post.machine b.post.vcpu b.holdings f y item store.finds at_b))
                    (fields_write (dead_kind k.kind k.unflushed clock) page_leaves.is) (sym (ap (λ (z : KindWord). z.kind) item_fields)) (work_alive (kind_fields item.word) working),
              )

          back_serves : Serves u w (of_domain u.post.machine d rose) []
          back_serves = serves_back u e w (of_domain u.post.machine d rose) [] [] dead_serves f (saw_asked saw w rose (came_trans v a w came_a came_w)) back

        pub page_took : NamesNone v → TookMarks v w f x [] (Ok tt)
        page_took clear =
            record {
              came = came_trans v a w came_a came_w;
              rests = same_rests v w rests page_same;
              hand = same_settled v w page_same;
              clear = same_names_none v w page_same clear;
              serves = λ u d saw. record { deeds = []; are = All-nil (IsDestroyDeed u.post.machine d); serves = λ rose due. back_serves saw rose };
              stops = λ u d saw. tt;
              kinds = tt;
              unpinned = λ u d saw. done_unpinned saw off try refl w came_w;
              unkept = λ u d saw. done_unkept saw off try refl w came_w;
              course = clearing.TakesMarks.page a w (ap (λ (z : KindWord). z.pinned) (fields_of x k read) ∙ plain) (ap (λ (z : KindWord). z.kept) (fields_of x k read) ∙ on) (ap (λ (z : KindWord). z.kind) (fields_of x k read) ∙ page)
                  (subst (λ (z : KindWord). Moves v a (Kind f) (Cas x (kind_write (resumed_kind z))) kinds.Kind None x) (sym (fields_of x k read)) try)
                  (subst (λ (z : KindWord). Does a w (λ vs. Then (Dies f Desc z.unflushed) (PutBy f) vs)) (sym (fields_of x k read))
                  (subst (λ (t : PageType). Does a w (λ vs. Then (Dies f t k.unflushed) (PutBy f) vs)) page (dead_steps w k.kind k.unflushed look store puts)));
            }
