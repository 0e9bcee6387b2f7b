use Rattle.verify_sweep.proofs.Listing.{failing_units-append}
use Rattle.verify_sweep.proofs.laws.parts_list_what_the_whole_lists.Goals as goal

pub returns : goal.returns
returns c = failing_units-append
