-- The frame that an old word named was found live: it is known so, by the reference in hand.
use Rattle.std.proofs.Common.{◌≡◌, ℕ, true, [], IsTrue, None, Some, refl, sym, ap, subst}
use Rattle.xp_words.specs.KindWords.{kind_read}
use Rattle.xp_words.specs.Places.{sizes_of}
use Rattle.xp_words.specs.declared.kind.KindWord.{KindWord}
use Rattle.xp_board.specs.Acts.{left_by}
use Rattle.xp_board.specs.Knowledge.{knows_live}
use Rattle.xp_board.specs.Readings.{is_live_as}
use Rattle.xp_board.specs.Told.{Post, PortValue}
use Rattle.xp_board.specs.declared.step.Act.TheVariants.{Load}
use Rattle.xp_board.specs.declared.step.StepKind.TheVariants as kinds
use Rattle.xp_board.proofs.Returned.{same_type}
use Rattle.xp_board.proofs.KindForms.{fields_of}
use Rattle.kind_words.proofs.Knowing.{live_by_step}
use Rattle.table_words.specs.declared.old_words.OldWord.{OldWord}
use Rattle.level_release.specs.Holding.{HoldsLive}
use Rattle.level_release.specs.Settling.{TookOld}
use Rattle.level_release.proofs.Taken.{named_before, named_later, named_ref, named_since, took_looking, took_typed, took_works}

module _ {u v : PortValue} {which : OldWord} {f word : ℕ} (t : TookOld u v which f word) {k : KindWord} (read : kind_read word ≡ Some k) (live : k.validated ≡ true) where
  live_as : is_live_as k.kind (left_by Load word) ≡ true
  unfolding left_by
  live_as = rw (fields_of word k read, live) (same_type k.kind)

  knows : IsTrue (knows_live (sizes_of v.post.machine) f k.kind v.holdings)
  knows =
      subst (λ (p : Post). IsTrue (knows_live (sizes_of p.machine) f k.kind v.holdings)) (sym (ap (λ (q : PortValue). q.post) t.same))
      (live_by_step t.b v f k.kind Load kinds.Look None word t.kind (named_ref f (named_since t)) [] (named_since t) (took_typed t) refl refl (named_before t) live_as)

  pub named_live : HoldsLive v f k.kind
  named_live = record { works = took_works t; looking = took_looking t; reference = named_ref f (named_since t); typed = took_typed t; frame = refl; recent = named_later t; live = knows }
