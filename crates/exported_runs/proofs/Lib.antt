mod Outcomes
