-- The frame that an old word named was found partial: the exchange that takes it into work again, and what follows it, serve the word.
use Rattle.std.proofs.Common.{◌≡◌, ◌≢◌, ℕ, if◌then◌else◌, Bool, [], ◌∷◌, ◌++◌, length, None, Some, IsTrue, refl, sym, ap, ◌∙◌, subst, arith, inl}
use Rattle.xp_words.specs.KindWords.{is_kind, kind_fields, kind_read, kind_write}
use Rattle.xp_words.specs.Places.{number, place_at, sizes_of}
use Rattle.xp_words.specs.declared.kind.KindWord.{KindWord}
use Rattle.xp_words.specs.declared.place.Place.TheVariants.{Clock, Kind, Refs}
use Rattle.xp_words.specs.declared.reply.Pause.TheVariants.{Lost}
use Rattle.xp_words.specs.declared.reply.Stop.{Stop}
use Rattle.xp_words.specs.declared.reply.Stop.TheVariants.{Paused}
use Rattle.xp_words.proofs.PlaceLaws.{place_back}
use Rattle.xp_words.proofs.Shared.{eq_false as when_ne}
use Rattle.xp_board.specs.Acts.{left_by}
use Rattle.xp_board.specs.Hands.{work_on}
use Rattle.xp_board.specs.KindSteps.{resumed_kind}
use Rattle.xp_board.specs.Readings.{domain_of, is_partial, is_work}
use Rattle.xp_board.specs.Steps.{last_since}
use Rattle.xp_board.specs.Told.{Post, PortValue}
use Rattle.xp_board.specs.declared.holdings.Work.{Work}
use Rattle.xp_board.specs.declared.step.Act.TheVariants.{Cas, Load, Store}
use Rattle.xp_board.specs.declared.step.StepKind.TheVariants as kinds
use Rattle.xp_board.proofs.KindForms.{fields_of}
use Rattle.xp_board.proofs.Sums.{when_eq}
use Rattle.step_maker.specs.Moves.{Came, Met, Moves}
use Rattle.step_maker.proofs.Coming.{came_post, came_trans, met_after, met_before, moment_of, moves_came, moves_met}
use Rattle.flush_words.proofs.Lasting.{last_left}
use Rattle.step_maker.specs.Answers.{Misses, Serves, Stops, deeds_by, exchanged, missed, missed_at, pin_deed}
use Rattle.step_maker.specs.Asked.{IsAsked, of_back}
use Rattle.step_maker.specs.Reasons.{MayType}
use Rattle.step_maker.proofs.Piecing.{serves_back, serves_came, serves_step}
use Rattle.step_maker.proofs.Keeping.{kept_type}
use Rattle.frame_types.proofs.Serving.{work_alive}
use Rattle.kind_words.proofs.KindFacts.{read_is, work_word}
use Rattle.kind_words.proofs.KindWriting.{fields_write, resumed_is}
use Rattle.partial_state.specs.declared.stack.TableWork.{TableWork}
use Rattle.table_words.specs.declared.old_words.OldWord.{OldWord}
use Rattle.table_words.proofs.Shared.{pin_none as no_pin}
use Rattle.level_release.specs.Asking.{IsReleasePiece}
use Rattle.level_release.specs.Settling.{TookOld}
use Rattle.level_release.proofs.Asking.{settling}
use Rattle.level_release.proofs.Named.{asks_it, names_it, passed_it, taken_came, took_came, took_serves}
use Rattle.level_release.proofs.Taken.{took_post}

module _ {u v : PortValue} {which : OldWord} {f word : ℕ} (t : TookOld u v which f word) (owner pages : ℕ) (rose : Bool) {k : KindWord} (read : kind_read word ≡ Some k) (partial : IsTrue (is_partial k)) {d : PortValue} {found : ℕ}
    (change : Moves v d (Kind f) (Cas (kind_write k) (kind_write (resumed_kind k))) kinds.Kind None found) where
  spelled : IsTrue (is_kind k)
  spelled = (read_is word k read).0

  was : word ≡ kind_write k
  was = (read_is word k read).1

  next_fields : kind_fields (kind_write (resumed_kind k)) ≡ resumed_kind k
  next_fields = fields_write (resumed_kind k) (resumed_is k spelled partial)

  came_d : Came v d
  came_d = moves_came v d (Kind f) (Cas (kind_write k) (kind_write (resumed_kind k))) kinds.Kind None found change

  pub change_came : Came u d
  change_came = came_trans u v d (took_came t owner pages rose) came_d

  -- the type is asked
  asks : MayType u.post.machine u.post.vcpu (settling owner pages rose) (Met u d) f (Cas (kind_write k) (kind_write (resumed_kind k))) found v.holdings
  asks =
      inl (
        domain_of u.post.machine u.post.vcpu,
        names_it t owner pages rose d came_d (Some (kind_fields (kind_write (resumed_kind k))).kind)
            (ap (λ (y : KindWord). Some y.kind) (fields_of word k read) ∙ sym (ap (λ (y : KindWord). Some y.kind) next_fields)),
        passed_it t owner pages rose d came_d v.holdings,
      )

  tried : Serves u d (settling owner pages rose) (deeds_by (Kind f) (Cas (kind_write k) (kind_write (resumed_kind k))) kinds.Kind found v.holdings ++ [])
  tried = serves_step u v d (settling owner pages rose) [] (Kind f) (Cas (kind_write k) (kind_write (resumed_kind k))) kinds.Kind None found (took_serves t owner pages rose) change asks

  no_deed : exchanged (Kind f) (kind_write k) (kind_write (resumed_kind k)) ≡ []
  no_deed =
      ap (λ (y : KindWord). pin_deed f y.pinned (kind_fields (kind_write (resumed_kind k))).pinned) (fields_write k spelled) ∙ ap (λ (y : KindWord). pin_deed f k.pinned y.pinned) next_fields ∙ no_pin f k.pinned

  pub change_serves : found ≡ kind_write k → Serves u d (settling owner pages rose) []
  change_serves at =
      subst (λ ds. Serves u d (settling owner pages rose) (ds ++ []))
      (ap (λ y. if y then exchanged (Kind f) (kind_write k) (kind_write (resumed_kind k)) else (Misses (Kind f) ∷ [])) (when_eq found (kind_write k) at) ∙ no_deed) tried

  -- ---- another word was found
  module _ (off : found ≢ kind_write k) {e : Stop} (is : e ≡ Paused (Lost (number (sizes_of d.post.machine) (Kind f)) word found)) where
    same_post : d.post ≡ u.post
    same_post = came_post u d change_came

    stop_is : e ≡ Paused (Lost (number (sizes_of u.post.machine) (Kind f)) word found)
    stop_is = is ∙ ap (λ (p : Post). Paused (Lost (number (sizes_of p.machine) (Kind f)) word found)) same_post

    there : place_at (sizes_of u.post.machine) (number (sizes_of u.post.machine) (Kind f)) ≡ Kind f
    there = subst (λ (p : Post). place_at (sizes_of p.machine) (number (sizes_of p.machine) (Kind f)) ≡ Kind f) (took_post t) (place_back (sizes_of v.post.machine) (Kind f) change.may.place)

    missed_is : missed u.post.machine e ≡ Misses (Kind f) ∷ []
    missed_is = ap (λ y. missed u.post.machine y) stop_is ∙ ap (λ p. missed_at p) there

    pub lost_serves : Serves u d (settling owner pages rose) (missed u.post.machine e)
    lost_serves =
        subst (λ ds. Serves u d (settling owner pages rose) ds) (sym missed_is)
        (subst (λ y. Serves u d (settling owner pages rose) ((if y then exchanged (Kind f) (kind_write k) (kind_write (resumed_kind k)) else (Misses (Kind f) ∷ [])) ++ [])) (when_ne found (kind_write k) off) tried)

    just_looked : last_since (sizes_of u.post.machine) (length t.b.holdings.steps) (Kind f) v.holdings.steps ≡ Some word
    unfolding left_by
    just_looked =
        subst (λ (p : Post). last_since (sizes_of p.machine) (length t.b.holdings.steps) (Kind f) v.holdings.steps ≡ Some word) (came_post u t.b (taken_came t owner pages rose))
        (last_left t.b v (Kind f) Load kinds.Look None word t.kind (length t.b.holdings.steps) (omega arith))

    lost_so : Stops u d (settling owner pages rose) (Paused (Lost (number (sizes_of u.post.machine) (Kind f)) word found))
    unfolding Stops moment_of
    lost_so = (
      Kind f,
      refl,
      (λ same. cc),
      (
        record {
          before = moment_of t.b (Kind f) Load kinds.Look None word;
          exchange = moment_of v (Kind f) (Cas (kind_write k) (kind_write (resumed_kind k))) kinds.Kind None found;
          new = kind_write (resumed_kind k);
          was_before = met_after u t.b d _ (taken_came t owner pages rose) (met_before t.b v d _ (moves_met t.b v (Kind f) Load kinds.Look None word t.kind) came_d);
          was_exchange = met_after u v d _ (took_came t owner pages rose) (moves_met v d (Kind f) (Cas (kind_write k) (kind_write (resumed_kind k))) kinds.Kind None found change);
          place_before = refl;
          place = refl;
          act = ap (λ y. Cas y (kind_write (resumed_kind k))) (sym was);
          word = refl;
          last = just_looked;
          other = λ same. off (same ∙ was);
        },
        subst (λ y. MayType u.post.machine u.post.vcpu (settling owner pages rose) (Met u d) f (Cas y (kind_write (resumed_kind k))) found v.holdings) (sym was) asks,
      ),
    )

    pub lost_stops : Stops u d (settling owner pages rose) e
    lost_stops = subst (λ y. Stops u d (settling owner pages rose) y) (sym stop_is) lost_so

  -- ---- it was found as expected
  module _ (at : found ≡ kind_write k) where
    -- a table is emptied behind a look at its reference word
    pub resumed_piece : {x : PortValue} {refs_word : ℕ} {table : TableWork} → table.frame ≡ f → Moves d x (Refs f) Load kinds.Look None refs_word → IsReleasePiece u x (settling owner pages rose) (table ∷ []) []
    resumed_piece {x} {refs_word} same look =
        record {
          entries = refl;
          serves = serves_step u d x (settling owner pages rose) [] (Refs f) Load kinds.Look None refs_word (change_serves at) look tt;
          asked = (
            subst (λ g. IsAsked u.post.machine u.post.vcpu (settling owner pages rose) (Met u x) g) (sym same)
                (asks_it t owner pages rose x (came_trans v d x came_d (moves_came d x (Refs f) Load kinds.Look None refs_word look))),
            tt,
          );
        }

    -- any other frame is left dead
    pub dead_serves : {a e : PortValue} (w : PortValue) {clock x : ℕ} {item : Work} (l : KindWord) → Moves d a Clock Load kinds.Look None clock → work_on f a.holdings.works ≡ Some item → IsTrue (is_work (kind_fields item.word)) →
        (kind_fields item.word).kind ≡ l.kind → IsTrue (is_kind l) → Moves a e (Kind f) (Store (kind_write l)) kinds.Kind None x → Serves e w (of_back f) [] → Serves u w (settling owner pages rose) []
    dead_serves {a} {e} w {clock} {x} {item} l look here working kind is store put =
        serves_back u e w (settling owner pages rose) [] []
        (serves_step u a e (settling owner pages rose) [] (Kind f) (Store (kind_write l)) kinds.Kind None x
        (serves_step u d a (settling owner pages rose) [] Clock Load kinds.Look None clock (change_serves at) look tt) store (
          asks_it t owner pages rose e came_e,
          kept_type x (kind_write l) (kind_fields item.word) l (ap (λ y. kind_fields y) (work_word a.post.machine a.post.vcpu a.holdings f x item store.finds here)) (fields_write l is) (sym kind) (work_alive (kind_fields item.word) working),
        )) f (asks_it t owner pages rose w (came_trans v e w came_e (serves_came e w (of_back f) [] put))) put
      where
        came_e : Came v e
        came_e = came_trans v d e came_d (came_trans d a e (moves_came d a Clock Load kinds.Look None clock look) (moves_came a e (Kind f) (Store (kind_write l)) kinds.Kind None x store))
