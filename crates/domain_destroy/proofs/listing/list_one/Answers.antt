use Rattle.std.proofs.Common.{◌≡◌, ◌∙◌, ◌∷◌, [], None, Some, ap, append-nil, refl, rules, sym}
use Rattle.xp_words.specs.declared.place.Place.TheVariants.{Refs}
use Rattle.xp_board.specs.Readings.{is_dying_in, owner_in}
use Rattle.domain_destroy.specs.Course.{ListsFrame}
use Rattle.domain_destroy.proofs.Lines.{counted_word, half_free_stops, half_word, other_word, own_word}
use Rattle.domain_destroy.proofs.Parts.{look_serves}
use Rattle.domain_destroy.proofs.listing.list_one.Goals as goal

-- ---- half free
pub returns-in-Some-Dying-clause-serves : goal.returns-in-Some-Dying-clause-serves
returns-in-Some-Dying-clause-serves g c =
    look_serves (g.P.Port.value c.args.port.now) (g.P.Port.value c.look_refs-found.new.port) c.args.domain _ (Refs c.args.frame) c.look_refs-found.result refl (λ r. tt) c.look_refs-found.ensures.moves

pub returns-in-Some-Dying-clause-stops : goal.returns-in-Some-Dying-clause-stops
returns-in-Some-Dying-clause-stops g c =
    let read = c.in-Some-Dying.is ∙ ap Some c.in-Some-Dying.field-0-is in
    half_free_stops (g.P.Port.value c.args.port.now) (g.P.Port.value c.look_refs-found.new.port) c.args.domain c.args.frame c.look_refs-found.result c.look_refs-found.ensures.moves
    (own_word c.look_refs-found.result c.args.domain c.read.result c.read.ensures.reads (ap owner_in read ∙ ap Some c.if-owner-domain.true))
    (half_word c.look_refs-found.result c.args.domain c.read.result c.read.ensures.reads (ap is_dying_in read))

pub returns-in-Some-Dying-clause-lists : goal.returns-in-Some-Dying-clause-lists
returns-in-Some-Dying-clause-lists g c =
    let read = c.in-Some-Dying.is ∙ ap Some c.in-Some-Dying.field-0-is in (
      c.look_refs-found.result,
      c.look_refs-found.ensures.moves,
      refl,
      own_word c.look_refs-found.result c.args.domain c.read.result c.read.ensures.reads (ap owner_in read ∙ ap Some c.if-owner-domain.true),
      half_word c.look_refs-found.result c.args.domain c.read.result c.read.ensures.reads (ap is_dying_in read),
      refl,
    )

-- ---- referred to
pub returns-in-Some-Owned-clause-serves : goal.returns-in-Some-Owned-clause-serves
returns-in-Some-Owned-clause-serves g c =
    look_serves (g.P.Port.value c.args.port.now) (g.P.Port.value c.look_refs-found.new.port) c.args.domain _ (Refs c.args.frame) c.look_refs-found.result refl (λ r. tt) c.look_refs-found.ensures.moves

pub returns-in-Some-Owned-clause-lists : goal.returns-in-Some-Owned-clause-lists
returns-in-Some-Owned-clause-lists g c =
    let read = c.in-Some-Owned.is ∙ ap Some c.in-Some-Owned.field-0-is in (
      c.look_refs-found.result,
      record { frame = c.args.frame; word = c.look_refs-found.result } ∷ [],
      c.look_refs-found.ensures.moves,
      ListsFrame.left (own_word c.look_refs-found.result c.args.domain c.read.result c.read.ensures.reads (ap owner_in read ∙ ap Some c.if-owner-domain-2.true))
          (counted_word c.look_refs-found.result c.args.domain c.read.result c.read.ensures.reads _ _ _ _ c.in-Some-Owned.is c.in-Some-Owned.field-0-is c.in-Some-Owned.ensures.valid),
      refl,
      c.push_reserved.ensures.items,
    )

-- ---- another's
pub returns-in_default-clause-serves : goal.returns-in_default-clause-serves
returns-in_default-clause-serves g c =
    look_serves (g.P.Port.value c.args.port.now) (g.P.Port.value c.look_refs-found.new.port) c.args.domain _ (Refs c.args.frame) c.look_refs-found.result refl (λ r. tt) c.look_refs-found.ensures.moves

pub returns-in_default-clause-lists : goal.returns-in_default-clause-lists
returns-in_default-clause-lists g c =
    let read = c.in-Some-Dying.is ∙ ap Some c.in-Some-Dying.field-0-is in (
      c.look_refs-found.result,
      [],
      c.look_refs-found.ensures.moves,
      ListsFrame.others (other_word c.look_refs-found.result c.args.domain c.read.result c.read.ensures.reads (λ e. c.if-owner-domain.false (let o : Some c.in-Some-Dying.owner ≡ Some c.args.domain = ap owner_in (sym read) ∙ e in cc))),
      refl,
      sym (append-nil c.args.log.now.items),
    )

pub returns-in_default-2-clause-serves : goal.returns-in_default-2-clause-serves
returns-in_default-2-clause-serves g c =
    look_serves (g.P.Port.value c.args.port.now) (g.P.Port.value c.look_refs-found.new.port) c.args.domain _ (Refs c.args.frame) c.look_refs-found.result refl (λ r. tt) c.look_refs-found.ensures.moves

pub returns-in_default-2-clause-lists : goal.returns-in_default-2-clause-lists
returns-in_default-2-clause-lists g c =
    let read = c.in-Some-Owned.is ∙ ap Some c.in-Some-Owned.field-0-is in (
      c.look_refs-found.result,
      [],
      c.look_refs-found.ensures.moves,
      ListsFrame.others
          (other_word c.look_refs-found.result c.args.domain c.read.result c.read.ensures.reads (λ e. c.if-owner-domain-2.false (let o : Some c.in-Some-Owned.owner ≡ Some c.args.domain = ap owner_in (sym read) ∙ e in cc))),
      refl,
      sym (append-nil c.args.log.now.items),
    )

pub returns-in_default-3-clause-serves : goal.returns-in_default-3-clause-serves
returns-in_default-3-clause-serves g c =
    look_serves (g.P.Port.value c.args.port.now) (g.P.Port.value c.look_refs-found.new.port) c.args.domain _ (Refs c.args.frame) c.look_refs-found.result refl (λ r. tt) c.look_refs-found.ensures.moves

pub returns-in_default-3-clause-lists : goal.returns-in_default-3-clause-lists
returns-in_default-3-clause-lists g c = (
  c.look_refs-found.result,
  [],
  c.look_refs-found.ensures.moves,
  ListsFrame.others (other_word c.look_refs-found.result c.args.domain c.read.result c.read.ensures.reads (search rules)),
  refl,
  sym (append-nil c.args.log.now.items),
)

pub returns-in_default-4-clause-serves : goal.returns-in_default-4-clause-serves
returns-in_default-4-clause-serves g c =
    look_serves (g.P.Port.value c.args.port.now) (g.P.Port.value c.look_refs-found.new.port) c.args.domain _ (Refs c.args.frame) c.look_refs-found.result refl (λ r. tt) c.look_refs-found.ensures.moves

pub returns-in_default-4-clause-lists : goal.returns-in_default-4-clause-lists
returns-in_default-4-clause-lists g c = (
  c.look_refs-found.result,
  [],
  c.look_refs-found.ensures.moves,
  ListsFrame.others (other_word c.look_refs-found.result c.args.domain c.read.result c.read.ensures.reads (λ e. absurd (let o : None ≡ Some c.args.domain = ap owner_in (sym c.in_default.is) ∙ e in cc))),
  refl,
  sym (append-nil c.args.log.now.items),
)
