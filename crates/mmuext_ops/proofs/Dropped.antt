-- Own translations that are dropped, as elements.
use Rattle.std.proofs.Common.{◌≡◌, ℕ, [], Ok, Err, None, subst}
use Rattle.xp_words.specs.declared.reply.Refusal.{Refusal}
use Rattle.xp_words.specs.declared.reply.Refusal.TheVariants as refusals
use Rattle.xp_words.specs.declared.reply.Stop.TheVariants.{Refused}
use Rattle.xp_board.specs.Readings.{last_clock}
use Rattle.xp_board.specs.Told.{PortValue}
use Rattle.step_maker.specs.Holds.{Same}
use Rattle.step_maker.specs.Answers.{Forgets, Serves, only_if}
use Rattle.step_maker.specs.Asked.{Request}
use Rattle.step_maker.specs.Visits.{Does}
use Rattle.flush_words.specs.Flushing.{FlushedBy}
use Rattle.tlb_walks.specs.Addresses.{is_canonical, page_of}
use Rattle.tlb_walks.specs.Dropping.{of_flush}
use Rattle.mmuext_ops.specs.Course.{FlushedLocal, spent}
use Rattle.mmuext_ops.specs.Elements.{IsElementStop, ServesElement, ext_request, told}
use Rattle.mmuext_ops.specs.declared.element.Element.TheVariants.{FlushLocal, Invalidate}
use Rattle.flush_waits.proofs.Shared.{clock_by as last_value}

-- ---- all of them

module _ (v w : PortValue) where
  pub flushed_serves : (d : ℕ) → Serves v w of_flush [] → ServesElement v w d FlushLocal None (Ok tt)
  flushed_serves d a = ([], told FlushLocal (Ok tt) tt, a)

  -- where it is not done, the clock is at its last value
  module _ (e : Refusal) (does : Does v w (FlushedBy v.post.vcpu (Err e))) where
    is_last : e ≡ refusals.Clock last_clock
    unfolding Does
    is_last = last_value v.post.vcpu e _ does.2

    pub spent_serves : (d : ℕ) → Serves v w of_flush [] → ServesElement v w d FlushLocal None (Err (Refused e))
    spent_serves d a = ([], told FlushLocal (Err (Refused e)) tt, a)

    pub spent_kind : IsElementStop FlushLocal (Refused e)
    spent_kind = rw is_last tt

    pub spent_course : Same v w → FlushedLocal v w [] (Err (Refused e))
    spent_course same = rw is_last (spent (subst (λ x. Does v w (FlushedBy v.post.vcpu (Err x))) is_last does) same)

  -- ---- those of one page
  module _ (va : ℕ) where
    pub page_serves : (d : ℕ) → ((r : Request) → Serves v w r (only_if (is_canonical va) (Forgets (page_of va)))) → ServesElement v w d (Invalidate va) None (Ok tt)
    page_serves d a = (only_if (is_canonical va) (Forgets (page_of va)), told (Invalidate va) (Ok tt) tt, a (ext_request v.post.machine v.post.vcpu d (Invalidate va) None (Ok tt)))
