use Rattle.pliron_opt_rotate.proofs.testing.is_gate.Goals as goal

pub returns-clause-gate : goal.returns-clause-gate
returns-clause-gate c = λ e. record {
  apart = c.is_same.ensures.apart c.if-is_same.false;
  in_region = c.is_in.ensures c.if-not-is_in.false;
  no_entry = λ k i. c.is_first_of.ensures c.if-is_first_of.false;
  led = λ k i. c.is_led_from.ensures.led c.if-not-is_led_from.false;
  behind = c.in_ok-behind.ensures.behind e;
}
