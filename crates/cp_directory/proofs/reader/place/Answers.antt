use Rattle.cp_directory.proofs.reader.place.Goals as goal

pub returns-in-User-clause-places : goal.returns-in-User-clause-places
returns-in-User-clause-places c = rw c.in-User.is (c.place_user.ensures.places c.args.line)

pub returns-in-Device-clause-places : goal.returns-in-Device-clause-places
returns-in-Device-clause-places c = rw c.in-Device.is (c.place_device.ensures.places c.args.line)
