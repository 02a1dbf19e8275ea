use native.Mathlib.Omega.{arith}
use Rattle.group.proofs.Status.{listed_later}
use Rattle.group.proofs.group_status.status_by.Goals as goal

pub get_group_status-requires-clause-places_known : goal.get_group_status-requires-clause-places_known
get_group_status-requires-clause-places_known g c = let D = c.requires.stands.metadata in listed_later D.low (omega (arith, D.some)) D.listed
