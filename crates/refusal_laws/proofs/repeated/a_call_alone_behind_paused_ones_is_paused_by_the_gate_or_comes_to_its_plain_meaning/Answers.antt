use Rattle.std.proofs.Common.{inl, inr}
use Rattle.refusal_laws.proofs.Repeating.{all_told, one_more}
use Rattle.refusal_laws.proofs.repeated.a_call_alone_behind_paused_ones_is_paused_by_the_gate_or_comes_to_its_plain_meaning.Goals as goal

pub returns : goal.returns
returns c v u w f owner level p answers answer machine calm orderly none low high d before alone one acquired goes room =
    elim (c.an_acquisition_alone_is_paused_by_the_gate_or_decided.ensures u w f owner level answers answer alone one acquired goes) [
      | inl due ↦ inl due
      | inr decided ↦
          inr (c.an_acquisition_from_described_words_comes_to_its_plain_meaning.ensures v w f owner level p answer machine (all_told f owner level v u before) calm orderly none low high d
          (one_more f owner level v u w answers answer before acquired room) decided)
    ]
