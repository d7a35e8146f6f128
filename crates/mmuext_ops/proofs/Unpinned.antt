-- An unpin: what its words tell, its calls one behind the other, what is in hand behind each, and why it is not done.
use Rattle.std.proofs.Common.{◌≡◌, ◌≢◌, ℕ, true, false, List, [], ◌∷◌, ◌++◌, Some, None, Err, is_some, IsTrue, refl, sym, ap, ◌∙◌, subst}
use Rattle.xp_words.specs.KindWords.{is_kind, kind_fields, kind_read, kind_write}
use Rattle.xp_words.specs.Places.{is_place, number, sizes_of}
use Rattle.xp_words.specs.declared.kind.KindWord.{KindWord}
use Rattle.xp_words.specs.declared.place.Place.TheVariants.{Kind}
use Rattle.xp_words.specs.declared.reply.Pause.TheVariants as pauses
use Rattle.xp_words.specs.declared.reply.Refusal.TheVariants.{NotPinned}
use Rattle.xp_words.specs.declared.reply.Stop.{Stop}
use Rattle.xp_words.specs.declared.reply.Stop.TheVariants.{Paused, Refused}
use Rattle.xp_board.specs.declared.step.Act.TheVariants.{Cas}
use Rattle.xp_board.specs.declared.step.StepKind.TheVariants as kinds
use Rattle.xp_board.specs.Told.{Post, PortValue}
use Rattle.xp_board.proofs.KindForms.{fields_of}
use Rattle.xp_board.proofs.Sums.{when_eq}
use Rattle.step_maker.specs.Moves.{Came, Met, Moves}
use Rattle.step_maker.proofs.Coming.{came_post, came_trans, met_after, met_before, moment_of, moves_came, moves_met}
use Rattle.step_maker.specs.Answers.{Deed, Serves, Stops, Unpins, deeds_by, missed, missed_at}
use Rattle.step_maker.specs.Asked.{Asked, IsAsked, Request, checked, named, of, of_back}
use Rattle.step_maker.specs.Finding.{Finding, FoundWith}
use Rattle.step_maker.specs.Reasons.{keeps_type}
use Rattle.step_maker.proofs.Piecing.{serves_back, serves_came}
use Rattle.step_maker.proofs.Keeping.{kept_type as mark_keeps}
use Rattle.kind_words.proofs.KindFacts.{kind_is_some, live_undead}
use Rattle.kind_words.proofs.KindWriting.{fields_write}
use Rattle.table_words.specs.Pins.{unpinned_kind}
use Rattle.table_words.proofs.PinWords.{pinned_lives, unpinned_is}
use Rattle.mmuext_ops.specs.Course.{TakesPinOff}
use Rattle.mmuext_ops.specs.Elements.{ServesElement, raced_unpin, told}
use Rattle.mmuext_ops.specs.declared.element.Element.TheVariants.{Unpin}
use Rattle.mmuext_ops.proofs.Looked.{Looked, came_a, fields, found_with, inside_b, look_there, looked, owner_known, owner_still, spelled, written}
use Rattle.mmuext_ops.proofs.Within.{of_unpin}
use Rattle.mmuext_ops.proofs.Marking.{lost_deeds, lost_misses, lost_stops, tried, unpins_deed}

-- ---- the request
module _ (v : PortValue) (f d : ℕ) where
  pub asks : (F : Finding) → Asked v.post.machine v.post.vcpu (of_unpin d f) F f d None
  asks F = named (when_eq f f refl) refl tt

  is_asked : (F : Finding) → IsAsked v.post.machine v.post.vcpu (of_unpin d f) F f
  is_asked F = of d None (asks F)

module _ {v a b : PortValue} {f d g x : ℕ} {k : KindWord} (saw : Looked v a b f d g x k) where
  -- it is not pinned
  pub before_stops : (c : PortValue) → Came b c → k.pinned ≡ false → Stops v c (of_unpin d f) (Refused (NotPinned x))
  unfolding Stops
  before_stops c after off = (f, d, None, a.holdings, asks v f d (Met v c), found_with saw c after, checked (owner_known saw), refl, when_eq f f refl, ap (λ (y : KindWord). y.pinned) (fields saw) ∙ off)

  -- ---- the exchange
  module _ {q : PortValue} {found : ℕ} (try : Moves b q (Kind g) (Cas (kind_write k) (kind_write (unpinned_kind k))) kinds.Kind None found) where
    abbrev new : ℕ
    new = kind_write (unpinned_kind k)

    abbrev request : Request
    request = of_unpin d f

    try_there : Moves b q (Kind f) (Cas x new) kinds.Kind None found
    try_there =
        subst (λ j. Moves b q (Kind j) (Cas x new) kinds.Kind None found) saw.at
        (subst (λ e. Moves b q (Kind g) (Cas e new) kinds.Kind None found) (written saw) try)

    pub takes_off : TakesPinOff b q f x found
    takes_off = subst (λ (y : KindWord). Moves b q (Kind f) (Cas x (kind_write (unpinned_kind y))) kinds.Kind None found) (sym (fields saw)) try_there

    pub found_some : IsTrue (is_some (kind_read found))
    found_some = kind_is_some b.post.machine b.post.vcpu b.holdings f found (inside_b saw) try_there.finds

    module _ (on : k.pinned ≡ true) where
      before : Serves v b request []
      before = looked saw request (asks v f d)

      asked : (F : Finding) → IsAsked v.post.machine v.post.vcpu request F f
      asked F = is_asked v f d F

      spells : IsTrue (is_kind k)
      spells = spelled saw

      new_fields : kind_fields new ≡ unpinned_kind k
      new_fields = fields_write (unpinned_kind k) (unpinned_is k spells (pinned_lives k spells on))

      keeps : IsTrue (keeps_type x new)
      keeps = mark_keeps x new k (unpinned_kind k) (fields saw) new_fields refl (live_undead k (pinned_lives k spells on))

      tried_serves : Serves v q request (deeds_by (Kind f) (Cas x new) kinds.Kind found b.holdings ++ [])
      tried_serves = tried v b q request f x new found try_there refl (asked (Met v q)) keeps [] before

      came_r : (r : PortValue) → Serves q r (of_back g) [] → Came q r
      came_r r gives = serves_came q r (of_back g) [] gives

      put_serves : (r : PortValue) (ds : List Deed) → Serves v q request ds → Serves q r (of_back g) [] → Serves v r request ds
      put_serves r ds behind gives = serves_back v q r request ds [] behind f (asked (Met v r)) (subst (λ j. Serves q r (of_back j) []) saw.at gives)

      -- it found the same word, and the reference is given back
      pub unpinned_serves : (r : PortValue) → found ≡ x → Serves q r (of_back g) [] → Serves v r request (Unpins f ∷ [])
      unpinned_serves r same_word gives =
          put_serves r (Unpins f ∷ [])
          (subst (λ ds. Serves v q request (ds ++ []))
          (ap (λ y. deeds_by (Kind f) (Cas x new) kinds.Kind y b.holdings) same_word ∙ unpins_deed f x new b.holdings (ap (λ (y : KindWord). y.pinned) (fields saw) ∙ on) (ap (λ (y : KindWord). y.pinned) new_fields)) tried_serves) gives

      -- ---- it found another word
      module _ (other : found ≢ x) (r : PortValue) (gives : Serves q r (of_back g) []) where
        missed_serves : Serves v r request (missed_at (Kind f))
        missed_serves = put_serves r (missed_at (Kind f)) (subst (λ ds. Serves v q request (ds ++ [])) (lost_deeds f x new b.holdings found other) tried_serves) gives

        came_b : Came v b
        came_b = serves_came v b request [] before

        -- which is not pinned
        pub raced_serves : ServesElement v r d (Unpin f) None (Err (Refused (NotPinned found)))
        raced_serves = (missed_at (Kind f), raced_unpin f found, missed_serves)

        found_now : FoundWith (Met v r) (Kind f) found b.holdings
        unfolding moment_of
        found_now =
            record {
              moment = moment_of b (Kind f) (Cas x new) kinds.Kind None found;
              was = met_after v b r _ came_b (met_before b q r _ (moves_met b q (Kind f) (Cas x new) kinds.Kind None found try_there) (came_r r gives));
              place = refl;
              word = refl;
              hand = refl;
            }

        pub raced_stops : (j : KindWord) → kind_read found ≡ Some j → j.pinned ≡ false → Stops v r request (Refused (NotPinned found))
        unfolding Stops
        raced_stops j read_now off =
            (f, d, None, b.holdings, asks v f d (Met v r), found_now, checked (owner_still saw), refl, when_eq f f refl, ap (λ (y : KindWord). y.pinned) (fields_of found j read_now) ∙ off)

        -- which is
        module _ (stop : Stop) (why : stop ≡ Paused (pauses.Lost (number (sizes_of r.post.machine) (Kind g)) x found)) where
          place_is : number (sizes_of r.post.machine) (Kind g) ≡ number (sizes_of v.post.machine) (Kind f)
          place_is =
              let came_end = came_trans v q r (came_trans v b q came_b (moves_came b q (Kind f) (Cas x new) kinds.Kind None found try_there)) (came_r r gives) in
              ap (λ (p : Post). number (sizes_of p.machine) (Kind g)) (came_post v r came_end) ∙ ap (λ j. number (sizes_of v.post.machine) (Kind j)) saw.at

          pub stop_is : stop ≡ Paused (pauses.Lost (number (sizes_of v.post.machine) (Kind f)) x found)
          stop_is = why ∙ ap (λ i. Paused (pauses.Lost i x found)) place_is

          pub lost_serves : ServesElement v r d (Unpin f) None (Err stop)
          lost_serves =
              let there : IsTrue (is_place (sizes_of v.post.machine) (Kind f)) = subst (λ (p : Post). IsTrue (is_place (sizes_of p.machine) (Kind f))) (came_post v b came_b) try_there.may.place in
              rw stop_is
              (missed v.post.machine (Paused (pauses.Lost (number (sizes_of v.post.machine) (Kind f)) x found)), told _ _ tt, rw (lost_misses v.post.machine f x found (number (sizes_of v.post.machine) (Kind f)) there refl) missed_serves)

          pub lost_why : Stops v r request stop
          lost_why =
              rw stop_is
              (lost_stops v a b q r f x new found (came_a saw) (look_there saw) try_there (came_r r gives) other request (number (sizes_of v.post.machine) (Kind f)) refl refl (asked (Met v r)) keeps)
