use Rattle.std.proofs.Common.{refl, sym, ◌∙◌, arith}
use Rattle.std.proofs.lemmas.List.{get_or-replicate}
use Rattle.xp_words.specs.Places.{sizes_of, memory}
use Rattle.walk_audit.proofs.Sums.{sum_below_none, few_pages, one_page_more}
use Rattle.walk_audit.proofs.pages.pages_owned.Goals as goal

pub loop-frame-init : goal.loop-frame-init
loop-frame-init c = record { len = refl; each = λ d l. (get_or-replicate 16 d 0 0 l ∙ sym (sum_below_none _)) }

pub add_page-requires : goal.add_page-requires
add_page-requires c =
    let m = memory (sizes_of c.args.layout.now) c.args.words.now in
    record { few = λ d l. few_pages m c.loop-frame.counts c.loop-frame.frame d (c.loop-frame.invariant.each d (omega (arith, c.loop-frame.invariant.len))) (omega arith) }

pub loop-frame-preserved : goal.loop-frame-preserved
loop-frame-preserved c =
    let m = memory (sizes_of c.args.layout.now) c.args.words.now in
    record {
      len = c.add_page.ensures.len ∙ c.loop-frame.invariant.len;
      each = λ d l.
          one_page_more m c.loop-frame.counts c.loop-frame.frame d (c.loop-frame.invariant.each d l) c.add_page.new.counts _ c.owner.ensures
          (c.add_page.ensures.each d (omega (arith, c.loop-frame.invariant.len)));
    }
