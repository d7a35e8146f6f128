-- The outermost table was left partial: it is named in the first old word.
use Rattle.std.proofs.Common.{◌+◌, [], ◌∷◌, length, Some, None, refl, sym, ap, ◌∙◌}
use Rattle.xp_words.specs.Places.{sizes_of}
use Rattle.xp_board.specs.Told.{Post, PortValue}
use Rattle.xp_board.specs.declared.holdings.Holdings.{Holdings}
use Rattle.xp_board.specs.declared.holdings.TypedReference.{TypedReference}
use Rattle.step_maker.specs.Holds.{Holds, still}
use Rattle.kind_words.proofs.Leaving.{without_newest}
use Rattle.partial_state.specs.declared.stack.TableWork.{TableWork}
use Rattle.table_words.specs.OldWords.{kept_in_old}
use Rattle.table_words.specs.declared.old_words.OldWord.TheVariants.{First}
use Rattle.level_release.specs.Holding.{Empties, HoldsNow, named_hand}
use Rattle.level_release.proofs.Hands.{tables_none}
use Rattle.level_release.proofs.HandsLeft.{LeftHand}
use Rattle.level_release.proofs.HandsTop.{top}

module _ {h : Holdings} {v : PortValue} {t : TableWork} (s : Empties h v (t ∷ [])) {d : PortValue} (k : LeftHand h v d t [] (top s).others) where
  pub named_stands : (x : PortValue) → Holds d x (kept_in_old First t.frame d.holdings) → HoldsNow x (named_hand t.frame h)
  named_stands x put =
      let e = top s in
      let holds : Holds v x (record v.holdings { refs = k.refs; typed = k.typed; works = e.others; old0 = Some (t.frame + 1) }) =
      put ∙ ap (λ (q : PortValue). still (record q { holdings = kept_in_old First t.frame q.holdings })) k.hand
      ∙ ap (λ ys. still (record v { holdings = record v.holdings { refs = k.refs; typed = ys; works = e.others; old0 = Some (t.frame + 1) } }))
      (without_newest (λ (y : TypedReference). y.frame) t.frame k.ref k.typed (k.ref ∷ k.typed) k.frame refl) in
      holds
      ∙ ap (λ (q : PortValue). record q { holdings = record q.holdings { refs = k.refs; typed = k.typed; works = e.others; old0 = Some (t.frame + 1) } }) s.hand
      ∙ ap (λ (p : Post). record { post = p; holdings = record h { refs = k.refs; typed = k.typed; works = e.others; old0 = Some (t.frame + 1); steps = [] }; told = None }) (sym (ap (λ (q : PortValue). q.post) holds))
      ∙ ap (λ rs. record { post = x.post; holdings = record h { refs = rs; typed = k.typed; works = e.others; old0 = Some (t.frame + 1); steps = [] }; told = None }) k.are_refs
      ∙ ap (λ ys. record { post = x.post; holdings = record h { typed = ys; works = e.others; old0 = Some (t.frame + 1); steps = [] }; told = None }) (k.are_typed ∙ sym s.typed)
      ∙ ap (λ es. record { post = x.post; holdings = record h { works = es; old0 = Some (t.frame + 1); steps = [] }; told = None })
      (tables_none (sizes_of v.post.machine) (length v.holdings.steps) (Some t) e.others e.around ∙ sym s.works)
