-- The whole domain, or an axis after the other.
use mathlib.Core.Path.{◌∙◌}
use denote.Floats.{passes}
use Rattle.domain.specs.Windows.{window_in}
use Rattle.domain.proofs.windows.window_of.Goals as goal

pub returns-in-Whole : goal.returns-in-Whole
unfolding window_in
returns-in-Whole c = record { value = c.domain_of-domain.ensures ∙ rw c.in-Whole.is; double_window = rw c.in-Whole.is tt }

pub returns-in-Within : goal.returns-in-Within
unfolding window_in
returns-in-Within c = record {
  value = rw (c.window_on.ensures, c.window_on-in-Within.ensures, c.domain_of-domain.ensures, c.in-Within.is);
  double_window = let fit = c.in-Within.known_told-1-own.given in
      rw c.in-Within.is (passes _ fit.0.1, passes _ fit.1.0.1, passes _ fit.1.1.0.1, passes _ fit.1.1.1.0.1);
}
