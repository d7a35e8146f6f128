use Rattle.std.proofs.Common.{◌≡◌, ◌+◌, ◌*◌, ◌%◌, ◌^◌, ◌<◌, arith, length, slice_index, ap, ◌∙◌, refl}
use Rattle.std.proofs.Math.ListN.{set, length-set}
use Rattle.xp_words.specs.Places.{sizes_of, size}
use Rattle.trace_text.specs.Counted.{pages_of}
use Rattle.machine_build.specs.Opening.{both_halves}
use Rattle.machine_build.proofs.Steps.{put_domain, no_domains, inside}
use Rattle.machine_build.proofs.rows.put_domains.Goals as goal

pub loop-domain-init : goal.loop-domain-init
loop-domain-init c = (refl, no_domains _ _)

pub set-requires-in-loop-domain : goal.set-requires-in-loop-domain
set-requires-in-loop-domain c =
    let count : length c.loop-domain.words ≡ size (sizes_of c.args.trace.now.layout) = c.loop-domain.invariant.0 ∙ c.requires.count in
    rw (c.set.ensures, length-set c.loop-domain.words c.pages_place.result c.pages_of_domain.result, count) (grind (arith, inside))

pub loop-domain-preserved : goal.loop-domain-preserved
loop-domain-preserved c =
    let below : c.loop-domain.domain < length c.args.trace.now.layout.page_limit = grind arith in
    let mask : c.from-mask.result ≡ slice_index c.args.trace.now.layout.privilege c.loop-domain.domain = grind arith in
    let fits : c.from-mask.result < 2 ^ 16 = let t = c.type_inv.masks c.loop-domain.domain in grind arith in
    let halves : c.from-mask.result + c.from-mask.result * 65536 % 18446744073709551616 ≡ both_halves (slice_index c.args.trace.now.layout.privilege c.loop-domain.domain) = omega arith in
    let pages : c.pages_of_domain.result ≡ pages_of c.loop-domain.domain c.args.trace.now.owned = c.pages_of_domain.ensures ∙ ap (pages_of c.loop-domain.domain) c.as_slice-owned.ensures in
    let count : length c.loop-domain.words ≡ size (sizes_of c.args.trace.now.layout) = c.loop-domain.invariant.0 ∙ c.requires.count in (
      rw (c.set-in-loop-domain.ensures, c.set.ensures) (length-set (set c.loop-domain.words c.pages_place.result c.pages_of_domain.result) _ _ ∙ length-set c.loop-domain.words _ _) ∙ c.loop-domain.invariant.0,
      λ p. rw (c.set-in-loop-domain.ensures, c.set.ensures, c.pages_place.ensures, c.priv_place.ensures) (put_domain _ _ _ _ _ _ _ count below pages halves c.loop-domain.invariant.1 p),
    )
