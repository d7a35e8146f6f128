use Rattle.std.proofs.Common.{[], refl, subst}
use Rattle.step_maker.specs.Asked.{of_back}
use Rattle.step_maker.proofs.Piecing.{serves_then}
use Rattle.frame_types.specs.Lowering.{DropsType}
use Rattle.level_validate.proofs.Entered.{back_given, back_puts, never_last}
use Rattle.level_validate.proofs.completing.give_back.Goals as goal

pub unreachable-requires : goal.unreachable-requires
unreachable-requires g c = never_last c.drop_type.ensures.drops c.requires.gives c.if-drop_type.true

pub put_ref-requires-clause-gives : goal.put_ref-requires-clause-gives
put_ref-requires-clause-gives g c = back_puts c.drop_type.ensures.drops c.if-drop_type.false

pub returns : goal.returns
returns g c =
    let a = g.P.Port.value c.drop_type.new.port in
    let w = g.P.Port.value c.put_ref.new.port in
    let drops = subst (λ b. DropsType (g.P.Port.value c.args.port.now) a c.args.frame b) c.if-drop_type.false c.drop_type.ensures.drops in
    let put = c.put_ref.ensures in
    record {
      between = a;
      lowers = drops;
      puts = record { found = put.puts; plain = put.plain };
      serves = serves_then _ a _ (of_back c.args.frame) [] [] c.drop_type.ensures.serves put.serves;
      hand = back_given drops refl w put.hand;
    }
