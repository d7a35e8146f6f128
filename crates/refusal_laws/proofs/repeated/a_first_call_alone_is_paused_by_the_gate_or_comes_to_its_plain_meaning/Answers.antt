use Rattle.std.proofs.Common.{inl, inr}
use Rattle.answer_laws.proofs.Shared.{alone_telling}
use Rattle.pause_laws.specs.Calls.{once}
use Rattle.refusal_laws.proofs.repeated.a_first_call_alone_is_paused_by_the_gate_or_comes_to_its_plain_meaning.Goals as goal

pub returns : goal.returns
returns c v w f owner level p answers answer alone one calm none low high d acquired goes =
    elim (c.an_acquisition_alone_is_paused_by_the_gate_or_decided.ensures v w f owner level answers answer alone one acquired goes) [
      | inl due ↦ inl due
      | inr decided ↦
          inr (c.an_acquisition_from_described_words_comes_to_its_plain_meaning.ensures v w f owner level p answer alone.state.sound.machine (alone_telling v alone) calm (c.who_is_alone_has_orderly_words.ensures v alone) none low high d
          (once v w answers answer acquired) decided)
    ]
