mod Inputs
