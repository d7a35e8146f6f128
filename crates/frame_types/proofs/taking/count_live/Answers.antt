use Rattle.std.proofs.Common.{refl}
use Rattle.flush_words.proofs.Shared.{may_held}
use Rattle.step_maker.proofs.Coming.{moved_inside}
use Rattle.frame_types.proofs.taking.count_live.Goals as goal

pub count_found-requires : goal.count_found-requires
count_found-requires g c =
    let v = g.P.Port.value c.args.port.now in
    let look = c.look_kind-word.ensures in
    let r = c.requires in
    record {
      frame = moved_inside look.moves r.frame;
      may = may_held v (g.P.Port.value c.look_kind-word.new.port) v.holdings look.hand refl refl r.may;
      wanted = r.wanted;
      looked = (v, record { look = look.moves; same = look.hand; frame = r.frame; lent = r.lent; aside = r.aside; other = r.other; looked = r.looked });
      stands = λ k read. tt;
    }

pub returns-clause-takes : goal.returns-clause-takes
returns-clause-takes g c =
    let look = c.look_kind-word.ensures in
    let r = c.requires in
    c.count_found.ensures.takes (g.P.Port.value c.args.port.now) (record { look = look.moves; same = look.hand; frame = r.frame; lent = r.lent; aside = r.aside; other = r.other; looked = r.looked })

pub returns-clause-found : goal.returns-clause-found
returns-clause-found g c =
    let look = c.look_kind-word.ensures in
    let r = c.requires in
    c.count_found.ensures.found (g.P.Port.value c.args.port.now) (record { look = look.moves; same = look.hand; frame = r.frame; lent = r.lent; aside = r.aside; other = r.other; looked = r.looked })

pub returns-clause-plain : goal.returns-clause-plain
returns-clause-plain g c =
    let look = c.look_kind-word.ensures in
    let r = c.requires in
    c.count_found.ensures.plain (g.P.Port.value c.args.port.now) (record { look = look.moves; same = look.hand; frame = r.frame; lent = r.lent; aside = r.aside; other = r.other; looked = r.looked })
