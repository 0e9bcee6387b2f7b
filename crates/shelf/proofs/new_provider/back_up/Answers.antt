use Rattle.shelf.proofs.new_provider.back_up.Goals as goal

pub returns : goal.returns
returns g c =
    let stores = rw c.encode.ensures.bytes at c.store_at.ensures in
    rw c.in-Some.is stores
