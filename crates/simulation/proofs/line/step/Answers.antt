-- By the command, one of the world's steps. Assumes nothing.
use Rattle.simulation.proofs.line.step.Goals as goal

pub returns-in-Send : goal.returns-in-Send
returns-in-Send c = λ n caps k v short h. rw c.in-Send.is (c.send.ensures.step n caps k v _ short h)

pub returns-in-Offer : goal.returns-in-Offer
returns-in-Offer c = λ n caps k v short h. rw c.in-Offer.is (c.offer.ensures.step n caps k v short h)

pub returns-in-Deliver : goal.returns-in-Deliver
returns-in-Deliver c = λ n caps k v short h. rw c.in-Deliver.is (c.deliver.ensures.step n caps k v short h)
