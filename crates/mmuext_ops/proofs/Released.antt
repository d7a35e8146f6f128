-- A table whose pin was taken off is released: the hand before and behind, and the steps.
use Rattle.std.proofs.Common.{◌≡◌, ℕ, ◌+◌, List, [], ◌∷◌, ◌++◌, Some, None, Result, Ok, Err, IfErr, refl, sym, ap, ◌∙◌, subst, inl, inr}
use Rattle.xp_words.specs.KindWords.{kind_write}
use Rattle.xp_words.specs.Machine.{Machine}
use Rattle.xp_words.specs.Places.{sizes_of}
use Rattle.xp_words.specs.declared.kind.KindWord.{KindWord}
use Rattle.xp_words.specs.declared.reply.Pause.TheVariants.{Due}
use Rattle.xp_words.specs.declared.reply.Stop.{Stop}
use Rattle.xp_words.specs.declared.reply.Stop.TheVariants.{Paused}
use Rattle.xp_board.specs.declared.holdings.Holdings.{Holdings}
use Rattle.xp_board.specs.declared.holdings.OwnerFound.TheVariants as owners
use Rattle.xp_board.specs.declared.holdings.Reference.{Reference}
use Rattle.xp_board.specs.declared.holdings.TypedReference.{TypedReference}
use Rattle.xp_board.specs.Hands.{owner_from, without_ref}
use Rattle.xp_board.specs.KindSteps.{live_typed}
use Rattle.xp_board.specs.Told.{Post, PortValue}
use Rattle.step_maker.specs.Holds.{Holds, Rests, Same, quiet, still}
use Rattle.step_maker.specs.Moves.{Came, Met}
use Rattle.step_maker.proofs.Coming.{came_post, met_after}
use Rattle.step_maker.specs.Answers.{Serves, Unpins, misses}
use Rattle.step_maker.proofs.Piecing.{serves_came, serves_inner}
use Rattle.flush_words.proofs.Lasting.{came_longer}
use Rattle.frame_words.specs.Freeing.{gave}
use Rattle.frame_words.specs.Refs.{took}
use Rattle.kind_words.specs.Kinds.{looked_at}
use Rattle.kind_words.proofs.KindHands.{known_first}
use Rattle.kind_words.proofs.Leaving.{without_newest}
use Rattle.table_words.specs.Pins.{took_pin, unpinned_kind}
use Rattle.level_release.specs.Asking.{of_release}
use Rattle.level_release.specs.Asking as releases
use Rattle.level_release.specs.Holding.{HoldsLive, LeavesUnheld}
use Rattle.mmuext_ops.specs.Elements.{HasDeeds, LeavesElement, ServesElement, told}
use Rattle.mmuext_ops.specs.declared.element.Element.TheVariants.{Unpin}
use Rattle.mmuext_ops.proofs.PinningLive.{looks_same}
use Rattle.mmuext_ops.proofs.Within.{of_unpin, within_release}

-- ---- the steps
has_release : (n : Machine) (s f : ℕ) (answer : Result (Unit {0}) Stop) → IfErr answer (λ e. e ≡ Paused Due) → HasDeeds n s (Unpin f) (Ok tt) (misses n answer ++ (Unpins f ∷ []))
has_release n s f (Ok done) due = told (Unpin f) (Ok tt) tt
has_release n s f (Err e) due = rw due (told (Unpin f) (Ok tt) tt)

pub released_serves : (v r w : PortValue) (f d g : ℕ) (answer : Result (Unit {0}) Stop) → g ≡ f → Serves v r (of_unpin d f) (Unpins f ∷ []) →
    Serves r w (of_release g d d answer) (misses r.post.machine answer) → IfErr answer (λ e. e ≡ Paused Due) → ServesElement v w d (Unpin f) None (Ok tt)
released_serves v r w f d g answer at before a due =
    let came = serves_came v r (of_unpin d f) (Unpins f ∷ []) before in
    let of_frame : Serves r w (of_release f d d answer) (misses v.post.machine answer) =
    subst (λ (p : Post). Serves r w (of_release f d d answer) (misses p.machine answer)) (came_post v r came) (subst (λ k. Serves r w (of_release k d d answer) (misses r.post.machine answer)) at a) in (
      misses v.post.machine answer ++ (Unpins f ∷ []),
      has_release v.post.machine v.post.vcpu f answer due,
      serves_inner v r w (of_unpin d f) (of_release f d d answer) (Unpins f ∷ []) (misses v.post.machine answer)
          (within_release v.post.machine v.post.vcpu f d (releases.is_due_answer answer) (Met r w) (Met v w) (λ m x. met_after v r w m came x)) before of_frame,
    )

-- ---- the hand
module _ (v a b q r : PortValue) (d g : ℕ) (rests : Rests v) (taken : Holds v a (took g d v.holdings)) (same : Same a b) where
  abbrev lent_ref : Reference
  lent_ref = record { frame = g; owner = owners.Of d }

  none_looked : b.holdings.looking ≡ []
  none_looked = ap (λ (y : PortValue). y.holdings.looking) (same ∙ taken) ∙ rests.empty.looking

  ref_gone : without_ref g (lent_ref ∷ v.holdings.refs) ≡ v.holdings.refs
  ref_gone = without_newest (λ (y : Reference). y.frame) g lent_ref v.holdings.refs (lent_ref ∷ v.holdings.refs) refl refl

  -- another word was found
  pub lost_hand : (found : ℕ) → Holds b q (looked_at g found b.holdings) → Holds q r (gave g q.holdings) → Holds v r v.holdings
  lost_hand found looks gives =
      gives ∙ ap (λ (y : PortValue). still (record y { holdings = gave g y.holdings })) (looks ∙ ap (λ (h : Holdings). still (record b { holdings = h })) (looks_same g found b.holdings none_looked) ∙ same ∙ taken)
      ∙ ap (λ (rs : List Reference). still (record v { holdings = record v.holdings { refs = rs } })) ref_gone

  -- the reference of the pin came into the hand
  module _ (k : KindWord) (pins : Holds b q (took_pin g k b.holdings)) (gives : Holds q r (gave g q.holdings)) where
    abbrev count : TypedReference
    count = live_typed g k.kind (owner_from b.holdings)

    live_hand : Holds v r (record v.holdings { typed = count ∷ [] })
    live_hand =
        gives ∙ ap (λ (y : PortValue). still (record y { holdings = gave g y.holdings })) pins
        ∙ ap (λ (h : Holdings). still (record b { holdings = record h { refs = without_ref g h.refs; typed = count ∷ h.typed } })) (looks_same g (kind_write (unpinned_kind k)) b.holdings none_looked)
        ∙ ap (λ (y : PortValue). still (record y { holdings = record y.holdings { refs = without_ref g y.holdings.refs; typed = count ∷ y.holdings.typed } })) (same ∙ taken)
        ∙ ap (λ (rs : List Reference). still (record v { holdings = record v.holdings { refs = rs; typed = count ∷ v.holdings.typed } })) ref_gone
        ∙ ap (λ (ys : List TypedReference). still (record v { holdings = record v.holdings { typed = count ∷ ys } })) rests.empty.typed

    pub holds_live : Came b r → HoldsLive r g k.kind
    holds_live came =
        record {
          works = ap (λ (y : PortValue). y.holdings.works) live_hand ∙ rests.empty.works;
          looking = ap (λ (y : PortValue). y.holdings.looking) live_hand ∙ rests.empty.looking;
          reference = count;
          typed = ap (λ (y : PortValue). y.holdings.typed) live_hand;
          frame = refl;
          live = known_first (sizes_of r.post.machine) g k.kind (owner_from b.holdings) [] r.holdings (ap (λ (y : PortValue). y.holdings.typed) live_hand);
          recent = came_longer b r came;
        }

    module _ (w : PortValue) (f : ℕ) (at : g ≡ f) where
      without : quiet (record r { holdings = record r.holdings { typed = [] } }) ≡ quiet v
      without =
          ap (λ (y : PortValue). quiet (record y { holdings = record y.holdings { typed = [] } })) live_hand
          ∙ ap (λ (ys : List TypedReference). quiet (record v { holdings = record v.holdings { typed = ys } })) (sym rests.empty.typed)

      pub released_hand : (answer : Result (Unit {0}) Stop) → LeavesUnheld r w g answer → LeavesElement v w (Unpin f) (Ok tt)
      released_hand (Ok done) leaves = inl (ap quiet leaves ∙ without)
      released_hand (Err e) leaves =
          inr (ap quiet leaves ∙ ap (λ (y : PortValue). quiet (record y { holdings = record y.holdings { old0 = Some (g + 1) } })) without ∙ ap (λ k. quiet (record v { holdings = record v.holdings { old0 = Some (k + 1) } })) at)
