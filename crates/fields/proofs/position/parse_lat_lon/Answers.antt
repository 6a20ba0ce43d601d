-- `parse_lat_lon` meets its contract: the one form, or else the other. Assumes nothing.
use mathlib.Core.Path.{refl}
use Rattle.text.proofs.Finding.{finding, go-on, done, alt-found, alt-not}
use Rattle.fields.specs.Position.{lat_lon}
use Rattle.fields.proofs.Number.{never-commas}
use Rattle.fields.proofs.position.parse_lat_lon.Goals as goal

pub returns-in-Ok : goal.returns-in-Ok
unfolding lat_lon
returns-in-Ok c = alt-found _ (go-on _ c.in-Ok.ensures (done refl refl))

pub returns-in_err-both : goal.returns-in_err-both
unfolding lat_lon
returns-in_err-both c = alt-not _ _ (λ f. never-commas) c.in_default.ensures (search finding depth 14)

pub returns : goal.returns
unfolding lat_lon
returns c = alt-not _ _ (λ f. never-commas) c.in_default.ensures (search finding depth 14)
